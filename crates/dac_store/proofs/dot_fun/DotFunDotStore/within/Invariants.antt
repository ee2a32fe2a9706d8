use Rattle.std.proofs.Common.{◌≡◌, true, take, is_some}
use Rattle.std.specs.FinSet as set
use Rattle.dac_lattice.specs.Search.{AtEachEntry}
use Rattle.dac_store.proofs.dot_fun.DotFunDotStore.within.Given as goal

abbrev pub invariant-loop-dot : goal.invariant-loop-dot
invariant-loop-dot g l = AtEachEntry (λ x v. is_some v ≡ true → set.contains l.context x ≡ true) (take l.dot-index l.dot-items)
