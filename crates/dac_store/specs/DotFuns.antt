-- Maps from dots to a lattice as a dot store: the list of entries in the order of dots.
use Rattle.std.specs.Prelude.{◌≡◌, Bool, true, false, List, [], ◌∷◌, is_some}
use Rattle.std.specs.FinSet as set
use Rattle.std.specs.FinMap.{find}
use Rattle.dac_origins.specs.Dots.{Dots, dot_cmp}
use Rattle.dac_origins.specs.declared.dot.Dot.{Dot}
use Rattle.dac_lattice.specs.Entries.{merge_entries}
use Rattle.dac_store.specs.AtDot.{StandsBelow, join_at}

-- whether the map has a value at the dot
abbrev pub has_dot : {V : Type 0} → List (Dot × V) → Dot → Bool
has_dot m x = is_some (find dot_cmp x m)

-- each dot in t and in the context c is in s, with a value that isn't greater
abbrev pub IsFunBelow : {V : Type 0} → (V → V → Type 0) → List (Dot × V) → Dots → List (Dot × V) → Dots → Type 0
IsFunBelow below s c t d = (x : Dot) → set.contains c x ≡ true → StandsBelow below (find dot_cmp x s) (find dot_cmp x t)

-- the joined values at each dot
abbrev pub join_funs : {V : Type 0} → (V → V → V) → List (Dot × V) → Dots → List (Dot × V) → Dots → List (Dot × V)
join_funs join s c t d = merge_entries dot_cmp (λ x. join_at join (set.contains c x) (set.contains d x)) s t

-- whether the list is empty
abbrev pub is_empty_list : {X : Type 0} → List X → Bool
is_empty_list [] = true
is_empty_list (x ∷ xs) = false
