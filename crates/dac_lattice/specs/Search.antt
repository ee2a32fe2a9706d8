-- Searches in lists of entries in key order, and properties of each entry.
use Rattle.std.specs.Prelude.{◌≡◌, ℕ, ◌<◌, not, T, List, length, Option, None, Some, Result, MatchResult}
use Rattle.std.specs.declared.cmp.Ordering.{Ordering}
use Rattle.std.specs.List.{HoldsAt, All}
use Rattle.std.specs.Ordering.{eq_by_cmp}
use Rattle.std.specs.FinMap.{find, is_sorted}
use Rattle.std.specs.FinMap.Entries.{where_key}

-- the keys are strictly sorted
abbrev pub IsInOrder : {K X : Type 0} → (K → K → Ordering) → List (K × X) → Type 0
IsInOrder R xs = T (is_sorted R xs)

-- the result of a search: the index of the key's entry, or an error if there is none
abbrev pub IsPlaceOf : {K X : Type 0} → (K → K → Ordering) → List (K × X) → K → Result ℕ ℕ → Type 0
IsPlaceOf R xs k r =
    MatchResult r (λ i. (i < length xs) × HoldsAt (λ e. find R k xs ≡ Some e.1) xs i) (λ _. find R k xs ≡ None)

-- the entries at other keys than this one
abbrev pub without : {K X : Type 0} → (K → K → Ordering) → K → List (K × X) → List (K × X)
without R key xs = where_key R (λ x. not (eq_by_cmp R key x)) xs

-- P holds at each key, of its value or None
abbrev pub AtEachKey : {K X : Type 0} → (K → K → Ordering) → (K → Option X → Type 0) → List (K × X) → Type 0
AtEachKey {K} R P xs = (k : K) → P k (find R k xs)

-- P holds of each entry
abbrev pub AtEachEntry : {K X : Type 0} → (K → Option X → Type 0) → List (K × X) → Type 0
AtEachEntry P xs = All (λ e. P e.0 (Some e.1)) xs
