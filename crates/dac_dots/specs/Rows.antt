-- A context by origin: for each one the counters before its first gap, and the further ones.
use Rattle.std.specs.Prelude.{◌≡◌, ℕ, zero, suc, ◌+◌, ◌<◌, ◌≤◌, ◌⊎◌, ◌==◌, ◌&&◌, ◌||◌, nat_lt, nat_le, Bool, true, false, if◌then◌else◌, List, [], ◌∷◌, ◌++◌, length, map}
use Rattle.std.specs.List.{filter, flat_map, fold, list_any, AllByRecursion}
use Rattle.std.specs.declared.cmp.Ordering.TheVariants.{Less}
use Rattle.std.specs.Ordering.{nat_cmp, eq_by_cmp}
use Rattle.std.specs.FinSet as set
use Rattle.dac_origins.specs.Keys.{IsRising, has_key}
use Rattle.dac_origins.specs.InOrder.{in_order}
use Rattle.dac_origins.specs.Dots.{Dots, dot, origin_cmp}
use Rattle.dac_origins.specs.declared.dot.Origin.{Origin}
use Rattle.dac_origins.specs.declared.dot.Dot.{Dot}

-- the dots of one origin: the counters 1 to upto (its entry of the version vector), and further ones (its part of the
-- cloud)
pub record Row : Type 0 where
  pub origin : Origin
  pub upto : ℕ
  pub further : List ℕ

-- the origins of the dots, in ascending order
abbrev pub origins_of : List Dot → List Origin
origins_of dots = in_order (set.from_list {R = origin_cmp} (map (λ (d : Dot). d.origin) dots))

-- whether the dot is the origin's
abbrev pub is_of : Origin → Dot → Bool
is_of origin d = (d.origin.node.0 == origin.node.0) && (d.origin.inc == origin.inc)

-- the counters of the origin's dots, in the order of the dots
abbrev pub counters_of : Origin → List Dot → List ℕ
counters_of origin dots = map (λ (d : Dot). d.n) (filter (is_of origin) dots)

-- the greatest number such that each one from upto + 1 to it is among the ascending counters; else upto
abbrev pub reach_from : ℕ → List ℕ → ℕ
reach_from upto counters = fold (λ upto n. if n == upto + 1 then n else upto) upto counters

-- the last counter before the first gap: 1 to it are among the ascending counters
abbrev pub reach_of : List ℕ → ℕ
reach_of counters = reach_from 0 counters

-- the counters outside 1 to upto
abbrev pub further_of : ℕ → List ℕ → List ℕ
further_of upto counters = filter (λ n. nat_lt upto n || n == 0) counters

abbrev pub row_of : Origin → List ℕ → Row
row_of origin counters =
    record { origin = origin; upto = reach_of counters; further = further_of (reach_of counters) counters }

-- the rows of a set of dots, in ascending order of origins
unfoldable pub rows_of : Dots → List Row
rows_of dots =
    map (λ (origin : Origin). row_of origin (counters_of origin (in_order dots))) (origins_of (in_order dots))

-- The row describes the dots of its origin in the set, of which there is at least one.
pub record IsRowOf (dots : Dots) (row : Row) : Type 0 where
  -- the counters are 1 to upto and the further ones
  pub exact : (n : ℕ)
      → set.contains dots (dot row.origin n) ≡ ((nat_le 1 n && nat_le n row.upto) || has_key nat_cmp row.further n)
  -- upto is as great as possible
  pub ends : set.contains dots (dot row.origin (row.upto + 1)) ≡ false
  -- no further counter is in 1 to upto + 1
  pub apart : (n : ℕ) → has_key nat_cmp row.further n ≡ true → (n ≡ 0) ⊎ (row.upto + 1 < n)
  pub rising : IsRising nat_cmp row.further
  pub some : (n : ℕ) × (set.contains dots (dot row.origin n) ≡ true)

-- the rows describe the set: one row for each origin with a dot in it, in ascending order
pub record AreRowsOf (dots : Dots) (rows : List Row) : Type 0 where
  pub each : AllByRecursion (IsRowOf dots) rows
  pub every : (d : Dot) → set.contains dots d ≡ true
      → has_key origin_cmp (map (λ (row : Row). row.origin) rows) d.origin ≡ true
  pub rising : IsRising origin_cmp (map (λ (row : Row). row.origin) rows)

-- ---- the dots of rows

-- the numbers 1 to n
unfoldable pub one_to : ℕ → List ℕ
one_to zero = []
one_to (suc n) = one_to n ++ suc n ∷ []

-- the dots of a row
unfoldable pub dots_in_row : Row → List Dot
dots_in_row row = map (dot row.origin) (one_to row.upto ++ row.further)

-- the dots of all these rows
unfoldable pub dots_in : List Row → Dots
dots_in rows = set.from_list (flat_map dots_in_row rows)

-- whether the row contains the counter
abbrev pub has_counter : Row → ℕ → Bool
has_counter row n = (nat_le 1 n && nat_le n row.upto) || has_key nat_cmp row.further n

-- whether the row contains the dot
abbrev pub row_has : Dot → Row → Bool
row_has q row = eq_by_cmp origin_cmp q.origin row.origin && has_counter row q.n

-- whether any of the rows contains the dot
abbrev pub any_row : List Row → Dot → Bool
any_row rows q = list_any (row_has q) rows

abbrev pub origins : List Row → List Origin
origins rows = map (λ (row : Row). row.origin) rows

-- A row's invariant: the further counters ascend, and none of them is in 1 to upto + 1.
pub record IsKept (row : Row) : Type 0 where
  pub rising : IsRising nat_cmp row.further
  pub apart : (n : ℕ) → has_key nat_cmp row.further n ≡ true → (n ≡ 0) ⊎ (row.upto + 1 < n)

-- the row has a counter
abbrev pub HasSome : Row → Type 0
HasSome row = (1 ≤ row.upto) ⊎ (1 ≤ length row.further)

-- whether the numbers ascend strictly from above low
abbrev pub rises_on : ℕ → List ℕ → Bool
rises_on low [] = true
rises_on low (n ∷ ns) = nat_lt low n && rises_on n ns

-- the invariant of a context's rows: each satisfies its own and isn't empty, and the origins ascend
pub record AreKept (rows : List Row) : Type 0 where
  pub each : AllByRecursion (λ row. IsKept row × HasSome row) rows
  pub rising : IsRising origin_cmp (origins rows)

-- `last` is the greatest counter of the list, or 0 if it is empty
pub record IsGreatest (counters : List ℕ) (last : ℕ) : Type 0 where
  pub above : (n : ℕ) → has_key nat_cmp counters n ≡ true → n ≤ last
  pub there : (last ≡ 0) ⊎ (has_key nat_cmp counters last ≡ true)

-- the origin is above those of all the rows
abbrev pub EndBefore : List Row → Origin → Type 0
EndBefore rows origin =
    (o : Origin) → has_key origin_cmp (map (λ (row : Row). row.origin) rows) o ≡ true → origin_cmp o origin ≡ Less

-- The row can be appended: its origin is above those of the rows, its further counters ascend from above upto + 1, and
-- it has a counter.
pub record CanFollow (rows : List Row) (row : Row) : Type 0 where
  pub above : EndBefore rows row.origin
  pub rising : IsRising nat_cmp ((row.upto + 1) ∷ row.further)
  pub some : HasSome row
