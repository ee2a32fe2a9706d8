use Rattle.std.proofs.Common.{◌≡◌, ℕ, ◌<◌, Some}
use Rattle.dac_weave.specs.laws.Common.{slice_get}
use Rattle.dac_weave.proofs.indexed_list.IndexedList.number.Given as goal

abbrev pub invariant-loop-i : goal.invariant-loop-i
invariant-loop-i g l = (i : ℕ) → i < l.i → (k : ℕ) → slice_get l.bucket i ≡ Some k → slice_get l.self k ≡ Some l.item → ⊥
