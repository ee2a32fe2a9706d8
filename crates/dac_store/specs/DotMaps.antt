-- Maps from keys to dot stores as a dot store: the list of entries in key order. A key whose store has no dots is
-- absent.
use Rattle.std.specs.Prelude.{◌≡◌, Bool, false, T, List, Option, None, Some, unwrap_or, if◌then◌else◌}
use Rattle.std.specs.declared.cmp.Ordering.{Ordering}
use Rattle.std.specs.List.{list_any}
use Rattle.std.specs.FinMap.{find, is_sorted}
use Rattle.dac_origins.specs.Dots.{Dots}
use Rattle.dac_origins.specs.declared.dot.Dot.{Dot}
use Rattle.dac_lattice.specs.Entries.{merge_entries}

-- whether any store contains the dot
abbrev pub has_in : {K S : Type 0} → (S → Dot → Bool) → List (K × S) → Dot → Bool
has_in has m x = list_any (λ e. has e.1 x) m

-- the store at a key, or the empty one if the key is absent
abbrev pub store_at : {S : Type 0} → S → Option S → S
store_at nothing v = unwrap_or v nothing

-- the store, or None if it has no dots
abbrev pub unless_empty : {S : Type 0} → (S → Bool) → S → Option S
unless_empty is_empty s = if is_empty s then None else Some s

-- a store in a map satisfies its invariant and has dots
abbrev pub IsKept : {S : Type 0} → (S → Type 0) → (S → Bool) → Option S → Type 0
IsKept is_store is_empty None = Unit {0}
IsKept is_store is_empty (Some s) = is_store s × (is_empty s ≡ false)

-- the keys are strictly sorted, and each store has dots
pub record IsKeyed {K S : Type 0} (R : K → K → Ordering) (is_store : S → Type 0) (is_empty : S → Bool)
    (m : List (K × S)) : Type 0 where
  pub in_order : T (is_sorted R m)
  pub stores : (k : K) → IsKept is_store is_empty (find R k m)

-- the stores are ordered key by key
abbrev pub IsKeyedBelow : {K S : Type 0} → (K → K → Ordering) → S → (S → Dots → S → Dots → Type 0) → List (K × S) → Dots
    → List (K × S) → Dots → Type 0
IsKeyedBelow {K} R nothing below m c t d =
    (k : K) → below (store_at nothing (find R k m)) c (store_at nothing (find R k t)) d

-- the stores are joined key by key; a key whose join has no dots is dropped
abbrev pub join_keyed : {K S : Type 0} → (K → K → Ordering) → S → (S → Bool) → (S → Dots → S → Dots → S) → List (K × S)
    → Dots → List (K × S) → Dots → List (K × S)
join_keyed R nothing is_empty join m c t d =
    merge_entries R (λ _ v w. unless_empty is_empty (join (store_at nothing v) c (store_at nothing w) d)) m t
