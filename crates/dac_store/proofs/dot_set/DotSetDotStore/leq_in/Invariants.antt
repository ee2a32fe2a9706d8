use Rattle.std.proofs.Common.{◌≡◌, true, take}
use Rattle.std.specs.List.{All}
use Rattle.dac_store.specs.DotSets.{may_stay}
use Rattle.dac_store.proofs.dot_set.DotSetDotStore.leq_in.Given as goal

abbrev pub invariant-loop-dot : goal.invariant-loop-dot
invariant-loop-dot l = All (λ x. may_stay l.self l.heard x ≡ true) (take l.dot-index l.dot-items)
