use Rattle.std.proofs.Common.{take}
use Rattle.dac_live.proofs.Common.{LinesAnswered}
use Rattle.dac_live.proofs.lines.lines_answered.Given as goal

abbrev pub invariant-loop-i : goal.invariant-loop-i
invariant-loop-i l = LinesAnswered (take l.i l.lines) (take l.i l.answers)
