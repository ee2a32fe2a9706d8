use Rattle.std.proofs.Common.{◌≡◌, true, take}
use Rattle.std.specs.List.{All}
use Rattle.std.specs.FinSet as set
use Rattle.dac_store.proofs.dot_set.DotSetDotStore.within.Given as goal

abbrev pub invariant-loop-dot : goal.invariant-loop-dot
invariant-loop-dot l = All (λ x. set.contains l.context x ≡ true) (take l.dot-index l.dot-items)
