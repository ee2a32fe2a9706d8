use Rattle.std.proofs.Common.{Err, Ok}
use Rattle.dac_shapes.specs.laws.Common.{located_of, parser_state}
use Rattle.dac_shapes.proofs.Loops.{failed, token_gives}
use Rattle.dac_shapes.proofs.parser.Parser.advance.Goals as goal

pub returns-in_err-self-clause-read : goal.returns-in_err-self-clause-read
returns-in_err-self-clause-read c = rw (failed _ _ c.from_residual.ensures.1) (token_gives located_of (Err _) (parser_state c.args.self.now) c.next.new.self c.in_err-self.ensures.taken c.in_err-self.ensures.fault)

pub returns-clause-read : goal.returns-clause-read
returns-clause-read c = token_gives located_of (Ok _) (parser_state c.args.self.now) c.next.new.self c.in_ok-self.ensures.taken c.in_ok-self.ensures.fault
