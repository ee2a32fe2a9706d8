use Rattle.dac_weave.specs.laws.Common.{IsLeft}
use Rattle.dac_weave.proofs.Least.{SoFar}
use Rattle.dac_weave.proofs.merge.Merge.least_left.Given as goal

abbrev pub invariant-loop-i : goal.invariant-loop-i
invariant-loop-i l = SoFar l.journals (IsLeft l.self.cursors.items) l.i l.least
