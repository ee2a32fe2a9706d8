use Rattle.std.proofs.Common.{◌++◌}
use Rattle.std.specs.Arc.{arc_value}
use Rattle.std.specs.List.{flat_map}
use Rattle.dac_sorted.proofs.EntryLemmas.{first_of}
use Rattle.dac_sorted.proofs.entries.Entries.first.Goals as goal

pub returns : goal.returns
returns g c =
    let inside = c.self.inside in
    first_of inside.here.now (flat_map arc_value inside.blocks.now ++ inside.last.now) c.args.self.now c.self.view_is c.self.invariant c.first.result c.first.ensures.value
