-- The rows of a set of dots describe it exactly.
use Rattle.std.proofs.Common.{◌≡◌, ℕ, ◌+◌, ◌<◌, ◌⊎◌, inl, inr, Bool, true, false, ◌||◌, ◌&&◌, nat_eq, nat_lt, nat_le, List, [], ◌∷◌, refl, sym, ap, ◌∙◌, subst, map, arith}
use Rattle.std.specs.FinSet as set
use Rattle.std.specs.List.{AllByRecursion}
use Rattle.std.specs.Ordering.{nat_cmp, eq_by_cmp, is_eq}
use Rattle.std.proofs.lemmas.Bool.{and_parts, or_cases, or_left, or_right, false≢true, cases_Bool, leb-true, ltb-true, eqb-true}
use Rattle.std.proofs.lemmas.Bool.Decides.{nat_tests}
use Rattle.std.proofs.lemmas.Cmp.{tied_itself}
use Rattle.dac_origins.specs.Keys.{IsRising, has_key}
use Rattle.dac_origins.specs.InOrder.{in_order}
use Rattle.dac_origins.specs.laws.InOrder.{tie, in_order-rising, has_key-in_order}
use Rattle.dac_origins.specs.Dots.{Dots, dot, dot_cmp, origin_cmp}
use Rattle.dac_origins.specs.laws.Dots.{dots_total, exact_dots, origins_total, exact_origins}
use Rattle.dac_origins.specs.declared.dot.Origin.{Origin}
use Rattle.dac_origins.specs.declared.dot.Dot.{Dot}
use Rattle.dac_dots.specs.Rows.{Row, row_of, rows_of, origins_of, counters_of, further_of, reach_of, IsRowOf, AreRowsOf}
use Rattle.dac_dots.specs.laws.CounterLaws.{on_the_way, ends_there, has_key-filter, rising_filter, has_key-counters, rising_counters}

outside : (v n : ℕ) → (nat_le 1 n && nat_le n v) ≡ false → (nat_lt v n || nat_eq n 0) ≡ true
outside v n out = grind (arith, nat_tests)

-- a set of counters that contains 1 to v is 1 to v and the rest
pub splits : (v n : ℕ) (h : Bool) → ((nat_le 1 n && nat_le n v) ≡ true → h ≡ true) → h ≡ ((nat_le 1 n && nat_le n v) || ((nat_lt v n || nat_eq n 0) && h))
splits v n h way = elim (cases_Bool (nat_le 1 n && nat_le n v)) [
  | inl inside ↦ way inside ∙ sym (or_left _ _ inside)
  | inr out ↦ sym (ap (λ w. w || ((nat_lt v n || nat_eq n 0) && h)) out ∙ ap (λ b. b && h) (outside v n out))
]

module _ (counters : List ℕ) where
  pub counters_split : (n : ℕ) → has_key nat_cmp counters n ≡ ((nat_le 1 n && nat_le n (reach_of counters)) || has_key nat_cmp (further_of (reach_of counters) counters) n)
  counters_split n =
      let v = reach_of counters in
      splits v n (has_key nat_cmp counters n) (λ w. let parts = and_parts _ _ w in let low = leb-true 1 n parts.0 in let high = leb-true n v parts.1 in on_the_way 0 n counters (omega arith) high)
      ∙ ap (λ h. (nat_le 1 n && nat_le n v) || h) (sym (has_key-filter (λ n. nat_lt v n || nat_eq n 0) counters n))

  pub apart_of : IsRising nat_cmp counters → (n : ℕ) → has_key nat_cmp (further_of (reach_of counters) counters) n ≡ true → (n ≡ 0) ⊎ (reach_of counters + 1 < n)
  apart_of rising n e =
      let v = reach_of counters in
      let parts = and_parts _ _ (sym (has_key-filter (λ n. nat_lt v n || nat_eq n 0) counters n) ∙ e) in
      let other : n ≡ v + 1 → ⊥ = λ at. false≢true (sym (ends_there 0 counters rising) ∙ ap (has_key nat_cmp counters) (sym at) ∙ parts.1) in
      elim (or_cases _ _ parts.0) [
        | inl above ↦ inr (let p = ltb-true v n above in omega arith)
        | inr zero ↦ inl (eqb-true n 0 zero)
      ]

has_origin : (o : Origin) (ds : List Dot) → has_key origin_cmp (map (λ (d : Dot). d.origin) ds) o ≡ true → (n : ℕ) × (has_key dot_cmp ds (dot o n) ≡ true)
has_origin o [] e = absurd (false≢true e)
has_origin o (d ∷ ds) e = elim (or_cases (eq_by_cmp origin_cmp o d.origin) (has_key origin_cmp (map (λ (d : Dot). d.origin) ds) o) e) [
  | inl first ↦ (d.n, or_left _ _ (ap (λ q. eq_by_cmp dot_cmp (dot q d.n) d) (exact_origins o d.origin (tie _ first)) ∙ ap is_eq (tied_itself dots_total d)))
  | inr rest ↦ let found = has_origin o ds rest in (found.0, or_right _ _ found.1)
]

origin_of_dot : (d : Dot) (ds : List Dot) → has_key dot_cmp ds d ≡ true → has_key origin_cmp (map (λ (d : Dot). d.origin) ds) d.origin ≡ true
origin_of_dot d [] e = absurd (false≢true e)
origin_of_dot d (x ∷ ds) e = elim (or_cases (eq_by_cmp dot_cmp d x) (has_key dot_cmp ds d) e) [
  | inl first ↦ or_left _ _ (ap (λ q. eq_by_cmp origin_cmp d.origin q.origin) (sym (exact_dots d x (tie _ first))) ∙ ap is_eq (tied_itself origins_total d.origin))
  | inr rest ↦ or_right _ _ (origin_of_dot d ds rest)
]

has_key-origins_of : (ds : List Dot) (o : Origin) → has_key origin_cmp (origins_of ds) o ≡ has_key origin_cmp (map (λ (d : Dot). d.origin) ds) o
has_key-origins_of ds o = has_key-in_order origins_total exact_origins _ o ∙ set.contains-from_list origins_total _ o

same_origins : (f : Origin → Row) → ((o : Origin) → (f o).origin ≡ o) → (os : List Origin) → map (λ (row : Row). row.origin) (map f os) ≡ os
same_origins f is [] = refl
same_origins f is (o ∷ os) = λ i. is o i ∷ same_origins f is os i

all_rows : (P : Row → Type 0) (f : Origin → Row) (os : List Origin) → ((o : Origin) → has_key origin_cmp os o ≡ true → P (f o)) → AllByRecursion P (map f os)
all_rows P f [] each = tt
all_rows P f (o ∷ os) each = (each o (or_left _ _ (ap is_eq (tied_itself origins_total o))), all_rows P f os (λ q e. each q (or_right _ _ e)))

module _ (dots : Dots) where
  is_there : (o : Origin) (n : ℕ) → set.contains dots (dot o n) ≡ has_key nat_cmp (counters_of o (in_order dots)) n
  is_there o n = sym (has_key-counters o (in_order dots) n ∙ has_key-in_order dots_total exact_dots dots (dot o n))

  row_tells : (o : Origin) → has_key origin_cmp (origins_of (in_order dots)) o ≡ true → IsRowOf dots (row_of o (counters_of o (in_order dots)))
  row_tells o e =
      let counters = counters_of o (in_order dots) in
      let rising = rising_counters o (in_order dots) (in_order-rising dots_total exact_dots dots) in
      let found = has_origin o (in_order dots) (sym (has_key-origins_of (in_order dots) o) ∙ e) in
      record {
        exact = λ n. is_there o n ∙ counters_split counters n;
        ends = is_there o (reach_of counters + 1) ∙ ends_there 0 counters rising;
        apart = apart_of counters rising;
        rising = rising_filter (λ n. nat_lt (reach_of counters) n || nat_eq n 0) counters rising;
        some = (found.0, sym (has_key-in_order dots_total exact_dots dots (dot o found.0)) ∙ found.1);
      }

  pub rows_tell : AreRowsOf dots (rows_of dots)
  unfolding rows_of
  rows_tell =
      let row = λ (o : Origin). row_of o (counters_of o (in_order dots)) in
      let os = origins_of (in_order dots) in
      let same = same_origins row (λ _. refl) os in
      record {
        each = all_rows (IsRowOf dots) row os row_tells;
        every = λ d e. ap (λ (os : List Origin). has_key origin_cmp os d.origin) same ∙ has_key-origins_of (in_order dots) d.origin ∙ origin_of_dot d (in_order dots) (has_key-in_order dots_total exact_dots dots d ∙ e);
        rising = subst (IsRising origin_cmp) (sym same) (in_order-rising origins_total exact_origins _);
      }
