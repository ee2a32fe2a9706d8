use Rattle.std.proofs.Common.{take}
use Rattle.dac_live.specs.Reads.{AreNoted}
use Rattle.dac_live.proofs.reads.are_noted.Given as goal

abbrev pub invariant-loop-i : goal.invariant-loop-i
invariant-loop-i l = AreNoted (take l.i l.phases) (take l.i l.reads)
