-- The keys of a finite set as a sorted list.
use Rattle.std.specs.Prelude.{List, [], ◌∷◌}
use Rattle.std.specs.declared.cmp.Ordering.{Ordering}
use Rattle.std.specs.FinSet as set
use Rattle.std.specs.FinMap.Entries.{by_order}

-- the sorted list with the key inserted, unless it is there
abbrev pub placed : {K : Type 0} → (K → K → Ordering) → K → List K → List K
placed R k [] = k ∷ []
placed R k (x ∷ xs) = by_order (R k x) (k ∷ x ∷ xs) (x ∷ xs) (x ∷ placed R k xs)

-- the keys sorted, each once
abbrev pub sorted : {K : Type 0} → (K → K → Ordering) → List K → List K
sorted R [] = []
sorted R (k ∷ ks) = placed R k (sorted R ks)

-- the keys of the set as a sorted list
unfoldable pub in_order : {K : Type 0} {R : K → K → Ordering} → set.FinSet R → List K
in_order {R = R} s = sorted R (set.items s)
