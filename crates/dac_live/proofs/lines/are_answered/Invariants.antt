use Rattle.std.proofs.Common.{take}
use Rattle.dac_live.specs.Lines.{AreAnswered}
use Rattle.dac_live.proofs.lines.are_answered.Given as goal

abbrev pub invariant-loop-i : goal.invariant-loop-i
invariant-loop-i l = AreAnswered (take l.i l.phases) (take l.i l.answers)
