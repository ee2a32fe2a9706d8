use Rattle.std.proofs.Common.{take}
use Rattle.dac_weave.specs.laws.Common.{AllZip, Begins}
use Rattle.dac_weave.proofs.cursor.cursors_of.Given as goal

abbrev pub invariant-loop-journal : goal.invariant-loop-journal
invariant-loop-journal l = AllZip (Begins l.config) (take l.journal-index l.journals) l.cursors.items
