use Rattle.std.proofs.Common.{take, All}
use Rattle.dac_live.specs.Lines.{IsLineOf}
use Rattle.dac_live.proofs.owed.has_lines.Given as goal

abbrev pub invariant-loop-line : goal.invariant-loop-line
invariant-loop-line l = All (IsLineOf l.nodes) (take l.line-index l.phase.lines.items)
