use Rattle.std.proofs.Common.{◌≡◌, take}
use Rattle.dac_weave.specs.Cut.{lengths_of}
use Rattle.dac_weave.proofs.weaving.lengths.Given as goal

abbrev pub invariant-loop-journal : goal.invariant-loop-journal
invariant-loop-journal l = l.row.items ≡ lengths_of (take l.journal-index l.journals)
