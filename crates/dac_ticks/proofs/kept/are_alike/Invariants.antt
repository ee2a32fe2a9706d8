use Rattle.std.proofs.Common.{ℕ, ◌<◌}
use Rattle.dac_ticks.specs.KeptBoards.{AreAlikeFor}
use Rattle.dac_ticks.proofs.Alike.{numbered_app}
use Rattle.dac_ticks.proofs.kept.are_alike.Given as goal

abbrev pub invariant-loop-number : goal.invariant-loop-number
invariant-loop-number l = (k : ℕ) → k < l.number → AreAlikeFor l.one l.other (numbered_app k)
