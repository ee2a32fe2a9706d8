use Rattle.dac_weave.specs.laws.Common.{IsUnfit}
use Rattle.dac_weave.proofs.Least.{SoFar}
use Rattle.dac_weave.proofs.unfit.unfit.Given as goal

abbrev pub invariant-loop-i : goal.invariant-loop-i
invariant-loop-i l = SoFar l.journals (IsUnfit l.journals) l.i l.least
