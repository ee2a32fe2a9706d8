use Rattle.std.proofs.Common.{◌≡◌, true, false, take, is_some}
use Rattle.std.specs.FinSet as set
use Rattle.dac_lattice.specs.Search.{AtEachEntry}
use Rattle.dac_store.proofs.dot_fun.DotFunDotStore.is_unheard.Given as goal

abbrev pub invariant-loop-dot : goal.invariant-loop-dot
invariant-loop-dot g l = AtEachEntry (λ x v. is_some v ≡ true → set.contains l.heard x ≡ false) (take l.dot-index l.dot-items)
