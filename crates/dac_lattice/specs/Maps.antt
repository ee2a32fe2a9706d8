-- Maps to a lattice, as lists of entries in key order.
use Rattle.std.specs.Prelude.{T, List, [], Option, None, Some}
use Rattle.std.specs.Arc.{arc_value}
use Rattle.std.specs.declared.sync.Arc.{Arc}
use Rattle.std.specs.declared.vec.Vec.{Vec}
use Rattle.std.specs.declared.cmp.Ordering.{Ordering}
use Rattle.std.specs.FinMap.{find, is_sorted}
use Rattle.dac_lattice.specs.Lattices.{IsOptionOf, IsOptionBelow, join_options}
use Rattle.dac_lattice.specs.Entries.{merge_entries}

-- the keys are strictly sorted, and each value has its type's invariant
pub record IsMap {K X : Type 0} (R : K → K → Ordering) (is_value : X → Type 0) (xs : List (K × X)) : Type 0 where
  pub in_order : T (is_sorted R xs)
  pub values : (k : K) → IsOptionOf is_value (find R k xs)

-- each key of xs is in ys, with an equal or greater value
abbrev pub IsMapBelow : {K X : Type 0} → (K → K → Ordering) → (X → X → Type 0) → List (K × X) → List (K × X) → Type 0
IsMapBelow {K} R below xs ys = (k : K) → IsOptionBelow below (find R k xs) (find R k ys)

-- the union of both maps, with the values of common keys joined
abbrev pub join_maps : {K X : Type 0} → (K → K → Ordering) → (X → X → X) → List (K × X) → List (K × X) → List (K × X)
join_maps R join = merge_entries R (λ _. join_options join)

-- the entries in a shared list, or none if there is no list
abbrev pub entries_kept : {X A Z : Type 0} → Option (Arc (Vec X A) Z) → List X
entries_kept None = []
entries_kept (Some entries) = (arc_value entries).items
