use Rattle.std.proofs.Common.{◌≡◌, false, take}
use Rattle.std.specs.List.{All}
use Rattle.std.specs.FinSet as set
use Rattle.dac_store.proofs.dot_set.DotSetDotStore.is_unheard.Given as goal

abbrev pub invariant-loop-dot : goal.invariant-loop-dot
invariant-loop-dot l = All (λ x. set.contains l.heard x ≡ false) (take l.dot-index l.dot-items)
