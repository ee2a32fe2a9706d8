use Rattle.std.proofs.Common.{take}
use Rattle.dac_store.proofs.Passing.{LosesMissing}
use Rattle.dac_store.proofs.dot_set.DotSet.remove_replaced.Given as goal

abbrev pub invariant-loop-dot : goal.invariant-loop-dot
invariant-loop-dot l = LosesMissing l.beside (take l.dot-index l.dot-items) l.fn.self l.self
