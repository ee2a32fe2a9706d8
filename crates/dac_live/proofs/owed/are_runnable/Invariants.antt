use Rattle.std.proofs.Common.{take, All}
use Rattle.dac_live.proofs.Common.{HasLines}
use Rattle.dac_live.proofs.owed.are_runnable.Given as goal

abbrev pub invariant-loop-phase : goal.invariant-loop-phase
invariant-loop-phase l = All (HasLines l.nodes) (take l.phase-index l.phases)
