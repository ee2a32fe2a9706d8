use Rattle.std.proofs.Common.{ℕ, ◌<◌}
use Rattle.dac_placement.specs.StateValue.{StateValue}
use Rattle.dac_board.specs.Boards.{Shows}
use Rattle.dac_decide.specs.laws.Kept.{numbered}
use Rattle.dac_decide.specs.Quiet.{IsQuiet}
use Rattle.dac_decide.proofs.waits.Waits.are_quiet.Given as goal

abbrev pub invariant-loop-number : goal.invariant-loop-number
invariant-loop-number l = (s : StateValue) → Shows l.config l.board s → (k : ℕ) → k < l.number → IsQuiet l.self s (numbered k)
