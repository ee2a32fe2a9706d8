-- Finite maps given by a function at a list of keys.
use Rattle.std.specs.Prelude.{List, [], ◌∷◌, Option, Some, None}
use Rattle.std.specs.declared.cmp.Ordering.{Ordering}
use Rattle.std.specs.FinMap as map

-- the entry of a key before others, if it has a value
abbrev pub with_entry : {K V : Type 0} → K → Option V → List (K × V) → List (K × V)
with_entry k None es = es
with_entry k (Some v) es = (k, v) ∷ es

-- the entries of f at the keys where it has a value
abbrev pub entries_at : {K V : Type 0} → (K → Option V) → List K → List (K × V)
entries_at f [] = []
entries_at f (k ∷ ks) = with_entry k (f k) (entries_at f ks)

-- the map of f's values at these keys
abbrev pub table : {K V : Type 0} (R : K → K → Ordering) → List K → (K → Option V) → map.FinMap R V
table R ks f = map.from_entries (entries_at f ks)
