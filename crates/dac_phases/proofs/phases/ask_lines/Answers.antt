use Rattle.std.proofs.Common.{◌≡◌, arith}
use Rattle.dac_phases.specs.laws.Common.{found, event_one, ask_one}
use Rattle.dac_phases.specs.laws.Spoken.{from_one}
use Rattle.dac_phases.proofs.phases.ask_lines.Goals as goal

pub returns : goal.returns
returns c = λ yes. from_one (λ k. found (event_one k) c.args.part.now ≡ found (ask_one c.args.node.0 k) c.args.phase.now.lines.items) (λ k low. c.loop-before.invariant k (omega (arith, low, c.loop-before-test.false)))
