use Rattle.std.proofs.Common.{◌≤◌, [], map}
use Rattle.dac_shapes.specs.laws.Common.{located_of, comma_list, room, parser_state, tokens_left}
use Rattle.dac_shapes.proofs.Loops.{Goes}
use Rattle.dac_shapes.proofs.parser.Parser.comma_list.Given as goal

abbrev pub invariant-loop-all : goal.invariant-loop-all
invariant-loop-all g l =
    let read = g.E.Elements.read_at in
    record {
      goes : Goes read l.fn.close (comma_list read l.fn.close (room (parser_state l.fn.self)) [] (located_of l.fn.self.token) (parser_state l.fn.self)) (map g.E.Elements.said l.all.items) (located_of l.self.token) (parser_state l.self);
      left : tokens_left l.self ≤ tokens_left l.fn.self;
    }

abbrev pub decreases-loop-all : goal.decreases-loop-all
decreases-loop-all g l = tokens_left l.self
