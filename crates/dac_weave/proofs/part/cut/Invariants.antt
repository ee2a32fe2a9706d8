use Rattle.std.proofs.Common.{◌≡◌, take}
use Rattle.dac_weave.specs.Cut.{cut}
use Rattle.dac_weave.proofs.part.cut.Given as goal

abbrev pub invariant-loop-i : goal.invariant-loop-i
invariant-loop-i l = l.parts.items ≡ cut (take l.i l.journals) (take l.i l.row)
