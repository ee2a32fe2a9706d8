-- A context as the entries of a map from origins to counters.
use Rattle.std.specs.Prelude.{ℕ, ◌+◌, ◌≤◌, Bool, false, List, [], ◌∷◌, ◌++◌, length, map, Option, None, Some}
use Rattle.std.specs.Ordering.{nat_cmp}
use Rattle.std.specs.FinSet as set
use Rattle.dac_origins.specs.Keys.{IsRising, has_key}
use Rattle.dac_origins.specs.InOrder.{in_order}
use Rattle.dac_origins.specs.Dots.{Dots, origin_cmp}
use Rattle.dac_origins.specs.declared.dot.Origin.{Origin}
use Rattle.dac_lattice.specs.Search.{IsInOrder, AtEachEntry}
use Rattle.dac_dots.specs.Rows.{Row, dots_in, row_of}

-- the rows of the entries
abbrev pub rows_at : List (Origin × List ℕ) → List Row
rows_at es = map (λ (e : Origin × List ℕ). row_of e.0 e.1) es

-- the dots of the entries
abbrev pub dots_of : List (Origin × List ℕ) → Dots
dots_of es = dots_in (rows_at es)

-- whether the counters at a key, if any, have this one
abbrev pub has_at : ℕ → Option (List ℕ) → Bool
has_at n None = false
has_at n (Some ns) = has_key nat_cmp ns n

-- the counters at a key, if any, ascend, and there is at least one
abbrev pub AreSome : Origin → Option (List ℕ) → Type 0
AreSome origin None = Unit {0}
AreSome origin (Some ns) = IsRising nat_cmp ns × (1 ≤ length ns)

-- the invariant of a context's entries
pub record AreRows (es : List (Origin × List ℕ)) : Type 0 where
  pub in_order : IsInOrder origin_cmp es
  pub each : AtEachEntry AreSome es

-- the counters of both, if any
abbrev pub united : Option (List ℕ) → Option (List ℕ) → Option (List ℕ)
united None theirs = theirs
united (Some mine) None = Some mine
united (Some mine) (Some theirs) = Some (in_order (set.from_list {R = nat_cmp} (mine ++ theirs)))

-- the number of the entries' counters
abbrev pub counted : List (Origin × List ℕ) → ℕ
counted [] = 0
counted (e ∷ es) = length e.1 + counted es
