use Rattle.std.proofs.Common.{length}
use Rattle.dac_script.proofs.Parting.{IsFront}
use Rattle.dac_script.proofs.input.split_input.Given as goal

abbrev pub invariant-loop-rest : goal.invariant-loop-rest
invariant-loop-rest l = IsFront l.text l.rest

abbrev pub decreases-loop-rest : goal.decreases-loop-rest
decreases-loop-rest l = length l.rest
