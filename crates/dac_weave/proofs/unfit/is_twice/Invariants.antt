use Rattle.dac_weave.proofs.Twice.{NoneBefore}
use Rattle.dac_weave.proofs.unfit.is_twice.Given as goal

abbrev pub invariant-loop-k : goal.invariant-loop-k
invariant-loop-k l = NoneBefore l.journals l.i l.k
