use Rattle.std.proofs.Common.{◌≡◌, take}
use Rattle.dac_live_play.proofs.Common.{lines_in}
use Rattle.dac_live_play.proofs.phases.phase_of.Given as goal

abbrev pub invariant-loop-line : goal.invariant-loop-line
invariant-loop-line l = l.lines.items ≡ lines_in (take l.line-index l.part)
