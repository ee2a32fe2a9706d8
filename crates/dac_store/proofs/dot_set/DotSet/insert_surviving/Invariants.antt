use Rattle.std.proofs.Common.{take}
use Rattle.dac_store.specs.DotSets.{may_stay}
use Rattle.dac_store.proofs.Passing.{AddsPassing}
use Rattle.dac_store.proofs.dot_set.DotSet.insert_surviving.Given as goal

abbrev pub invariant-loop-dot : goal.invariant-loop-dot
invariant-loop-dot l = AddsPassing (may_stay l.beside l.heard) (take l.dot-index l.dot-items) l.fn.self l.self
