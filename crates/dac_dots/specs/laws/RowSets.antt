-- Rows that satisfy a context's invariant are the rows of the set of their dots, and each set has one list of rows.
use Rattle.std.specs.Prelude.{◌≡◌, ℕ, zero, suc, ◌+◌, ◌<◌, ◌≤◌, Bool, true, false, ◌||◌, ◌&&◌, nat_le, nat_lt, List, [], ◌∷◌, ◌++◌, length, map, refl}
use Rattle.std.specs.FinSet as set
use Rattle.std.specs.List.{flat_map, AllByRecursion}
use Rattle.std.specs.declared.cmp.Ordering.TheVariants.{Greater}
use Rattle.std.specs.Ordering.{nat_cmp, eq_by_cmp, is_eq, ordering_reverse}
use Rattle.std.proofs.Common.{inl, inr, sym, ap, ◌∙◌, arith}
use Rattle.std.specs.Cmp.{both_ways}
use Rattle.std.proofs.lemmas.Bool.{and_parts, and_from, and_right, or_cases, or_from, or_left, or_right, false≢true, true≢false, leb-true, le-leb, lt-leb, ltb-true, cases_order, false_from_ne_true}
use Rattle.std.proofs.lemmas.Bool.Decides.{nat_tests}
use Rattle.std.proofs.lemmas.Cmp.{nat_cmp_total, tied_itself}
use Rattle.std.proofs.lemmas.List.Concat.{flat_map-cons}
use Rattle.std.proofs.lemmas.List.Folds.{list_any-append}
use Rattle.std.proofs.lemmas.Map.Lookups.{exact_unsigned}
use Rattle.std.proofs.Math.Bool.{or-false, and-false}
use Rattle.dac_origins.specs.Keys.{is_below_all, is_rising, IsRising, has_key}
use Rattle.dac_origins.specs.laws.InOrder.{tie, less, same_rising, rest_same}
use Rattle.dac_origins.specs.Dots.{Dots, dot, dot_cmp, origin_cmp}
use Rattle.dac_origins.specs.laws.Dots.{dots_total, exact_dots, origins_total, exact_origins}
use Rattle.dac_origins.specs.declared.dot.Origin.{Origin}
use Rattle.dac_origins.specs.declared.dot.Dot.{Dot}
use Rattle.dac_dots.specs.laws.CounterLaws.{is_eq-then, is_same, is_less, below_more}
use Rattle.dac_dots.specs.laws.RowLaws.{rows_tell}
use Rattle.dac_dots.specs.Rows.{Row, IsRowOf, AreRowsOf, rows_of, one_to, dots_in_row, dots_in, has_counter, row_has, any_row, origins, rises_on, IsKept, HasSome, AreKept}

-- ---- the numbers 1 to n

none_yet : (n : ℕ) → false ≡ (nat_le 1 n && nat_le n 0)
none_yet n = grind (arith, nat_tests)

one_more : (u n : ℕ) → ((nat_le 1 n && nat_le n u) || (eq_by_cmp nat_cmp n (suc u) || false)) ≡ (nat_le 1 n && nat_le n (suc u))
one_more u n = grind (arith, nat_tests)

pub has_one_to : (u n : ℕ) → has_key nat_cmp (one_to u) n ≡ (nat_le 1 n && nat_le n u)
unfolding one_to
has_one_to zero n = none_yet n
has_one_to (suc u) n =
    list_any-append (eq_by_cmp nat_cmp n) (one_to u) (suc u ∷ [])
    ∙ ap (λ b. b || (eq_by_cmp nat_cmp n (suc u) || false)) (has_one_to u n)
    ∙ one_more u n

-- ---- the dots that rows contain

pub or_turn : (a b c : Bool) → (a || (b || c)) ≡ ((b || a) || c)
or_turn a b c = grind arith

pub distribute : (a t h : Bool) → ((a && t) || (a && h)) ≡ (a && (t || h))
distribute a t h = grind arith

pub has_dots : (o : Origin) (ns : List ℕ) (q : Dot) → has_key dot_cmp (map (dot o) ns) q ≡ (eq_by_cmp origin_cmp q.origin o && has_key nat_cmp ns q.n)
has_dots o [] q = sym (and-false (eq_by_cmp origin_cmp q.origin o))
has_dots o (n ∷ ns) q =
    (λ i. is_eq-then (origin_cmp q.origin o) (nat_cmp q.n n) i || has_dots o ns q i)
    ∙ distribute (eq_by_cmp origin_cmp q.origin o) (eq_by_cmp nat_cmp q.n n) (has_key nat_cmp ns q.n)

pub has_row : (row : Row) (q : Dot) → has_key dot_cmp (dots_in_row row) q ≡ row_has q row
unfolding dots_in_row
has_row row q =
    has_dots row.origin (one_to row.upto ++ row.further) q
    ∙ ap (λ b. eq_by_cmp origin_cmp q.origin row.origin && b)
    (list_any-append (eq_by_cmp nat_cmp q.n) (one_to row.upto) row.further ∙ ap (λ b. b || has_key nat_cmp row.further q.n) (has_one_to row.upto q.n))

pub has_rows : (rows : List Row) (q : Dot) → has_key dot_cmp (flat_map dots_in_row rows) q ≡ any_row rows q
has_rows [] q = refl
has_rows (row ∷ rows) q =
    ap (λ (ds : List Dot). has_key dot_cmp ds q) (flat_map-cons dots_in_row row rows)
    ∙ list_any-append (eq_by_cmp dot_cmp q) (dots_in_row row) (flat_map dots_in_row rows)
    ∙ (λ i. has_row row q i || has_rows rows q i)

pub contains-dots_in : (rows : List Row) (q : Dot) → set.contains (dots_in rows) q ≡ any_row rows q
unfolding dots_in
contains-dots_in rows q = set.contains-from_list dots_total (flat_map dots_in_row rows) q ∙ has_rows rows q

-- a set with the dots of these rows is their set
pub is_dots_in : (s : Dots) (rows : List Row) → ((q : Dot) → set.contains s q ≡ any_row rows q) → s ≡ dots_in rows
is_dots_in s rows h = set.same_set dots_total exact_dots s (dots_in rows) (λ q. h q ∙ sym (contains-dots_in rows q))

-- ---- rows with ascending origins

pub absent : (o : Origin) (n : ℕ) (rows : List Row) → is_below_all origin_cmp o (origins rows) ≡ true → any_row rows (dot o n) ≡ false
absent o n [] h = refl
absent o n (row ∷ rows) h =
    let parts = and_parts _ _ h in
    ap (λ r. (is_eq r && has_counter row n) || any_row rows (dot o n)) (less _ parts.0) ∙ absent o n rows parts.1

-- only this row has dots of its origin
abbrev pub IsAlone : List Row → Row → Type 0
IsAlone rows row = (n : ℕ) → any_row rows (dot row.origin n) ≡ has_counter row n

later : (row : Row) (rest rows : List Row) → is_below_all origin_cmp row.origin (origins rows) ≡ true → AllByRecursion (IsAlone rest) rows → AllByRecursion (IsAlone (row ∷ rest)) rows
later row rest [] h all = tt
later row rest (x ∷ rows) h all =
    let parts = and_parts _ _ h in
    let other : origin_cmp x.origin row.origin ≡ Greater = origins_total.antisymm x.origin row.origin ∙ ap ordering_reverse (less _ parts.0) in
    (λ n. ap (λ r. (is_eq r && has_counter row n) || any_row rest (dot x.origin n)) other ∙ all.0 n, later row rest rows parts.1 all.1)

pub alone : (rows : List Row) → IsRising origin_cmp (origins rows) → AllByRecursion (IsAlone rows) rows
alone [] h = tt
alone (row ∷ rows) h =
    let parts = and_parts (is_below_all origin_cmp row.origin (origins rows)) (is_rising origin_cmp (origins rows)) h in
    let here = λ (n : ℕ). ap (λ r. (is_eq r && has_counter row n) || any_row rows (dot row.origin n)) (tied_itself origins_total row.origin)
    ∙ ap (λ b. has_counter row n || b) (absent row.origin n rows parts.0)
    ∙ or-false (has_counter row n) in
    (here, later row rows rows parts.0 (alone rows parts.1))

-- ---- rows that satisfy the invariant describe their set

pub some_counter : (row : Row) → HasSome row → (n : ℕ) × (has_counter row n ≡ true)
some_counter row (inl more) = (1, or_left _ _ (and_from _ _ refl (le-leb 1 row.upto more)))
some_counter row (inr more) = some_further row row.further refl more
  where
    some_further : (row : Row) (ns : List ℕ) → row.further ≡ ns → 1 ≤ length ns → (n : ℕ) × (has_counter row n ≡ true)
    some_further row [] is p = absurd (omega arith)
    some_further row (x ∷ ns) is p = (x, or_right _ _ (ap (λ (ns : List ℕ). has_key nat_cmp ns x) is ∙ or_left _ _ (is_same x x refl)))

pub some_length : (ns : List ℕ) (n : ℕ) → has_key nat_cmp ns n ≡ true → 1 ≤ length ns
some_length [] n e = absurd (false≢true e)
some_length (x ∷ ns) n e = omega arith

-- upto + 1 isn't in the row
pub kept_ends : (row : Row) → IsKept row → has_counter row (row.upto + 1) ≡ false
kept_ends row is = or_from _ _ (and_right _ _ (lt-leb (row.upto + 1) row.upto (omega arith)))
    (false_from_ne_true (has_key nat_cmp row.further (row.upto + 1)) (λ e. elim (is.apart (row.upto + 1) e) [ inl none ↦ omega arith | inr past ↦ omega arith ]))

row_of_set : (dots : Dots) (row : Row) → ((n : ℕ) → set.contains dots (dot row.origin n) ≡ has_counter row n) → IsKept row × HasSome row → IsRowOf dots row
row_of_set dots row there is =
    let found = some_counter row is.1 in
    record {
      exact = there;
      ends = there (row.upto + 1) ∙ kept_ends row is.0;
      apart = is.0.apart;
      rising = is.0.rising;
      some = (found.0, there found.0 ∙ found.1);
    }

rows_of_set : (dots : Dots) (rest rows : List Row) → ((q : Dot) → set.contains dots q ≡ any_row rest q) → AllByRecursion (IsAlone rest) rows → AllByRecursion (λ row. IsKept row × HasSome row) rows → AllByRecursion (IsRowOf dots) rows
rows_of_set dots rest [] there lone is = tt
rows_of_set dots rest (row ∷ rows) there lone is = (row_of_set dots row (λ n. there (dot row.origin n) ∙ lone.0 n) is.0, rows_of_set dots rest rows there lone.1 is.1)

pub any_origin : (rows : List Row) (q : Dot) → any_row rows q ≡ true → has_key origin_cmp (origins rows) q.origin ≡ true
any_origin [] q e = absurd (false≢true e)
any_origin (row ∷ rows) q e = elim (or_cases (eq_by_cmp origin_cmp q.origin row.origin && has_counter row q.n) (any_row rows q) e) [
  | inl here ↦ or_left (eq_by_cmp origin_cmp q.origin row.origin) (has_key origin_cmp (origins rows) q.origin) (and_parts (eq_by_cmp origin_cmp q.origin row.origin) (has_counter row q.n) here).0
  | inr past ↦ or_right (eq_by_cmp origin_cmp q.origin row.origin) (has_key origin_cmp (origins rows) q.origin) (any_origin rows q past)
]

pub kept_tell : (rows : List Row) → AreKept rows → AreRowsOf (dots_in rows) rows
kept_tell rows is =
    record {
      each = rows_of_set (dots_in rows) rows rows (contains-dots_in rows) (alone rows is.rising) is.each;
      every = λ d e. any_origin rows d (sym (contains-dots_in rows d) ∙ e);
      rising = is.rising;
    }

-- ---- each set has one list of rows

module _ (dots : Dots) where
  pub origin_has : (rows : List Row) → AllByRecursion (IsRowOf dots) rows → (q : Origin) → has_key origin_cmp (origins rows) q ≡ true → (n : ℕ) × (set.contains dots (dot q n) ≡ true)
  origin_has [] each q e = absurd (false≢true e)
  origin_has (row ∷ rows) each q e = elim (or_cases (eq_by_cmp origin_cmp q row.origin) (has_key origin_cmp (origins rows) q) e) [
    | inl here ↦
        let first : IsRowOf dots row = each.0 in
        (first.some.0, ap (λ (o : Origin). set.contains dots (dot o first.some.0)) (exact_origins q row.origin (tie _ here)) ∙ first.some.1)
    | inr past ↦ origin_has rows each.1 q past
  ]

  same_origins : (xs ys : List Row) → AreRowsOf dots xs → AreRowsOf dots ys → origins xs ≡ origins ys
  same_origins xs ys g h = same_rising origins_total exact_origins (origins xs) (origins ys) g.rising h.rising (λ q. both_ways _ _
      (λ e. let found = origin_has xs g.each q e in h.every (dot q found.0) found.1)
      (λ e. let found = origin_has ys h.each q e in g.every (dot q found.0) found.1))

  not_less : (x y : Row) → IsRowOf dots x → IsRowOf dots y → x.origin ≡ y.origin → x.upto < y.upto → ⊥
  not_less x y g h same lt =
      let there : has_counter y (x.upto + 1) ≡ true = or_left _ _ (and_from _ _ (le-leb 1 (x.upto + 1) (omega arith)) (le-leb (x.upto + 1) y.upto (omega arith))) in
      true≢false (sym there ∙ sym (h.exact (x.upto + 1)) ∙ ap (λ (o : Origin). set.contains dots (dot o (x.upto + 1))) (sym same) ∙ g.ends)

  same_upto : (x y : Row) → IsRowOf dots x → IsRowOf dots y → x.origin ≡ y.origin → x.upto ≡ y.upto
  same_upto x y g h same = elim (cases_order x.upto y.upto) [
    | inl is ↦ is
    | inr (inl before) ↦ absurd (not_less x y g h same before)
    | inr (inr beyond) ↦ absurd (not_less y x h g (sym same) beyond)
  ]

  -- no further counter is in 1 to upto
  outside : (x : Row) → IsRowOf dots x → (n : ℕ) → (nat_le 1 n && nat_le n x.upto) ≡ true → has_key nat_cmp x.further n ≡ false
  outside x g n inside = false_from_ne_true (has_key nat_cmp x.further n) (λ e.
      let parts = and_parts _ _ inside in
      let low = leb-true 1 n parts.0 in
      let high = leb-true n x.upto parts.1 in
      elim (g.apart n e) [ inl none ↦ omega arith | inr past ↦ omega arith ])

  same_further : (x y : Row) → IsRowOf dots x → IsRowOf dots y → x.origin ≡ y.origin → x.upto ≡ y.upto → x.further ≡ y.further
  same_further x y g h same upto = same_rising nat_cmp_total exact_unsigned x.further y.further g.rising h.rising (λ n.
      let inside = λ (v : ℕ). nat_le 1 n && nat_le n v in
      rest_same (inside x.upto) (has_key nat_cmp x.further n) (has_key nat_cmp y.further n)
      (outside x g n)
      (λ e. outside y h n (ap inside (sym upto) ∙ e))
      (sym (g.exact n) ∙ ap (λ (o : Origin). set.contains dots (dot o n)) same ∙ h.exact n ∙ ap (λ (v : ℕ). inside v || has_key nat_cmp y.further n) (sym upto)))

  same_row : (x y : Row) → IsRowOf dots x → IsRowOf dots y → x.origin ≡ y.origin → x ≡ y
  same_row x y g h same =
      let upto = same_upto x y g h same in
      let further = same_further x y g h same upto in
      λ i. record { origin = same i; upto = upto i; further = further i }

  same_list : (xs ys : List Row) → AllByRecursion (IsRowOf dots) xs → AllByRecursion (IsRowOf dots) ys → origins xs ≡ origins ys → xs ≡ ys
  same_list [] [] g h e = refl
  same_list [] (y ∷ ys) g h e = absurd cc
  same_list (x ∷ xs) [] g h e = absurd cc
  same_list (x ∷ xs) (y ∷ ys) g h e =
      let first : x.origin ≡ y.origin = cc in
      let rest : origins xs ≡ origins ys = cc in
      λ i. same_row x y g.0 h.0 first i ∷ same_list xs ys g.1 h.1 rest i

  pub same_rows : (xs ys : List Row) → AreRowsOf dots xs → AreRowsOf dots ys → xs ≡ ys
  same_rows xs ys g h = same_list xs ys g.each h.each (same_origins xs ys g h)

  -- ---- the set of a set's rows

  row_dot : (rows : List Row) → AllByRecursion (IsRowOf dots) rows → (q : Dot) → any_row rows q ≡ true → set.contains dots q ≡ true
  row_dot [] each q e = absurd (false≢true e)
  row_dot (row ∷ rows) each q e = elim (or_cases (eq_by_cmp origin_cmp q.origin row.origin && has_counter row q.n) (any_row rows q) e) [
    | inl here ↦
        let parts = and_parts _ _ here in
        let first : IsRowOf dots row = each.0 in
        ap (λ (o : Origin). set.contains dots (dot o q.n)) (exact_origins q.origin row.origin (tie _ parts.0)) ∙ first.exact q.n ∙ parts.1
    | inr past ↦ row_dot rows each.1 q past
  ]

  dot_row : (rows : List Row) → AllByRecursion (IsRowOf dots) rows → (q : Dot) → has_key origin_cmp (origins rows) q.origin ≡ true → set.contains dots q ≡ true → any_row rows q ≡ true
  dot_row [] each q at e = absurd (false≢true at)
  dot_row (row ∷ rows) each q at e = elim (or_cases (eq_by_cmp origin_cmp q.origin row.origin) (has_key origin_cmp (origins rows) q.origin) at) [
    | inl here ↦
        let first : IsRowOf dots row = each.0 in
        or_left _ _ (and_from _ _ here (sym (first.exact q.n) ∙ ap (λ (o : Origin). set.contains dots (dot o q.n)) (sym (exact_origins q.origin row.origin (tie _ here))) ∙ e))
    | inr past ↦ or_right _ _ (dot_row rows each.1 q past e)
  ]

  pub rows_back : (rows : List Row) → AreRowsOf dots rows → dots_in rows ≡ dots
  rows_back rows h = set.same_set dots_total exact_dots (dots_in rows) dots (λ q.
      contains-dots_in rows q ∙ both_ways _ _ (row_dot rows h.each q) (λ e. dot_row rows h.each q (h.every q e) e))

-- rows that satisfy the invariant are the rows of their set
pub kept_are : (rows : List Row) → AreKept rows → rows_of (dots_in rows) ≡ rows
kept_are rows is = same_rows (dots_in rows) (rows_of (dots_in rows)) rows (rows_tell (dots_in rows)) (kept_tell rows is)

-- the dots of a set's rows are the set
pub dots_back : (dots : Dots) → dots_in (rows_of dots) ≡ dots
dots_back dots = rows_back dots (rows_of dots) (rows_tell dots)

-- ---- ascending numbers

-- `rises_on` means a strictly sorted list with low in front
pub rises_to : (low : ℕ) (ns : List ℕ) → rises_on low ns ≡ true → IsRising nat_cmp (low ∷ ns)
rises_to low [] h = refl
rises_to low (n ∷ ns) h =
    let parts = and_parts (nat_lt low n) (rises_on n ns) h in
    let rest = and_parts (is_below_all nat_cmp n ns) (is_rising nat_cmp ns) (rises_to n ns parts.1) in
    let lt : low < n = ltb-true low n parts.0 in
    and_from _ _ (and_from _ _ (is_less low n lt) (below_more low n ns lt rest.0)) (and_from _ _ rest.0 rest.1)
