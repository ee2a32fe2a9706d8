-- The counters of an origin's dots: those before the first gap, and the further ones.
use Rattle.std.proofs.Common.{◌≡◌, ℕ, ◌+◌, ◌<◌, ◌≤◌, inl, inr, Bool, true, false, cond, ◌||◌, ◌&&◌, nat_eq, List, [], ◌∷◌, refl, sym, ap, ◌∙◌, map, arith}
use Rattle.std.specs.declared.cmp.Ordering.{Ordering}
use Rattle.std.specs.declared.cmp.Ordering.TheVariants.{Equal}
use Rattle.std.specs.List.{filter}
use Rattle.std.specs.Ordering.{nat_cmp, is_eq, is_lt, eq_by_cmp, ordering_then}
use Rattle.std.proofs.lemmas.Bool.{and_parts, and_from, or_from, or_left, or_right, eqb-true, eqb-false, cases_order, cases_eq}
use Rattle.std.proofs.lemmas.Bool.Decides.{nat_tests}
use Rattle.std.proofs.lemmas.Cmp.{tied_itself}
use Rattle.std.proofs.lemmas.Map.Views.{any-filter_same}
use Rattle.dac_origins.specs.Keys.{is_below_all, is_rising, IsRising, has_key}
use Rattle.dac_origins.specs.Dots.{dot, dot_cmp, origin_cmp}
use Rattle.dac_origins.specs.laws.Dots.{origins_total}
use Rattle.dac_origins.specs.laws.KeyLaws.{equal_origins}
use Rattle.dac_origins.specs.declared.dot.Origin.{Origin}
use Rattle.dac_origins.specs.declared.dot.Dot.{Dot}
use Rattle.dac_dots.specs.Rows.{is_of, counters_of, reach_from}

-- ---- numbers

pub less : (a b : ℕ) → is_lt (nat_cmp a b) ≡ true → a < b
less a b e = grind (arith, nat_tests)

pub is_less : (a b : ℕ) → a < b → is_lt (nat_cmp a b) ≡ true
is_less a b e = grind (arith, nat_tests)

pub same : (a b : ℕ) → eq_by_cmp nat_cmp a b ≡ true → a ≡ b
same a b e = grind (arith, nat_tests)

pub is_same : (a b : ℕ) → a ≡ b → eq_by_cmp nat_cmp a b ≡ true
is_same a b e = grind (arith, nat_tests)

is_other : (a b : ℕ) → (a ≡ b → ⊥) → eq_by_cmp nat_cmp a b ≡ false
is_other a b e = grind (arith, nat_tests)

turned : (a b : ℕ) → eq_by_cmp nat_cmp a b ≡ nat_eq b a
turned a b = grind (arith, nat_tests)

pub below_more : (k n : ℕ) (ns : List ℕ) → k < n → is_below_all nat_cmp n ns ≡ true → is_below_all nat_cmp k ns ≡ true
below_more k n [] p h = refl
below_more k n (x ∷ ns) p h = and_from _ _ (is_less k x (let q = less n x (and_parts _ _ h).0 in omega arith)) (below_more k n ns p (and_parts _ _ h).1)

-- ---- the counters before a gap

pub grows : (v : ℕ) (ns : List ℕ) → v ≤ reach_from v ns
grows v [] = omega arith
grows v (n ∷ ns) = elim (nat_eq n (v + 1)) as (λ b. nat_eq n (v + 1) ≡ b → v ≤ reach_from (cond b n v) ns) [
  | true ↦ λ e. let is = eqb-true n (v + 1) e in let more = grows n ns in omega arith
  | false ↦ λ e. grows v ns
] refl

-- each number after v up to the one reached is among the counters
pub on_the_way : (v m : ℕ) (ns : List ℕ) → v < m → m ≤ reach_from v ns → has_key nat_cmp ns m ≡ true
on_the_way v m [] p q = absurd (omega arith)
on_the_way v m (n ∷ ns) p q = elim (nat_eq n (v + 1)) as (λ b. nat_eq n (v + 1) ≡ b → m ≤ reach_from (cond b n v) ns → has_key nat_cmp (n ∷ ns) m ≡ true) [
  | true ↦ λ e q. let is = eqb-true n (v + 1) e in elim (cases_eq m n) [
    | inl at ↦ or_left _ _ (is_same m n at)
    | inr past ↦ or_right _ _ (on_the_way n m ns (omega arith) q)
  ]
  | false ↦ λ e q. or_right _ _ (on_the_way v m ns p q)
] refl q

-- nothing is reached if all counters are beyond the next
pub stays : (v : ℕ) (ns : List ℕ) → is_below_all nat_cmp (v + 1) ns ≡ true → reach_from v ns ≡ v
stays v [] h = refl
stays v (n ∷ ns) h = elim (nat_eq n (v + 1)) as (λ b. nat_eq n (v + 1) ≡ b → reach_from (cond b n v) ns ≡ v) [
  | true ↦ λ e. absurd (let is = eqb-true n (v + 1) e in let p = less (v + 1) n (and_parts _ _ h).0 in omega arith)
  | false ↦ λ e. stays v ns (and_parts _ _ h).1
] refl

-- a counter other than the next, and below those after it, isn't the one after the last reached either
not_next : (v n : ℕ) (ns : List ℕ) → (n ≡ v + 1 → ⊥) → is_below_all nat_cmp n ns ≡ true → reach_from v ns + 1 ≡ n → ⊥
not_next v n ns other above at = elim (cases_order n (v + 1)) [
  | inl is ↦ other is
  | inr (inl before) ↦ let more = grows v ns in omega arith
  | inr (inr after) ↦ let still = stays v ns (below_more (v + 1) n ns after above) in omega arith
]

-- the number after the last reached isn't among ascending counters
pub ends_there : (v : ℕ) (ns : List ℕ) → IsRising nat_cmp ns → has_key nat_cmp ns (reach_from v ns + 1) ≡ false
ends_there v [] h = refl
ends_there v (n ∷ ns) h =
    let parts = and_parts (is_below_all nat_cmp n ns) (is_rising nat_cmp ns) h in
    elim (nat_eq n (v + 1)) as (λ b. nat_eq n (v + 1) ≡ b → has_key nat_cmp (n ∷ ns) (reach_from (cond b n v) ns + 1) ≡ false) [
      | true ↦ λ e. or_from _ _ (is_other _ n (λ at. let more = grows n ns in omega arith)) (ends_there n ns parts.1)
      | false ↦ λ e. or_from _ _ (is_other _ n (not_next v n ns (eqb-false n (v + 1) e) parts.0)) (ends_there v ns parts.1)
    ] refl

-- ---- filters

module _ (p : ℕ → Bool) where
  pub has_key-filter : (ns : List ℕ) (n : ℕ) → has_key nat_cmp (filter p ns) n ≡ (p n && has_key nat_cmp ns n)
  has_key-filter ns n = any-filter_same (eq_by_cmp nat_cmp n) p (p n) (λ k e. ap p (sym (same n k e))) ns

  below_filter : (k : ℕ) (ns : List ℕ) → is_below_all nat_cmp k ns ≡ true → is_below_all nat_cmp k (filter p ns) ≡ true
  below_filter k [] h = refl
  below_filter k (x ∷ ns) h = elim (p x) as (λ b. is_below_all nat_cmp k (cond b (x ∷ filter p ns) (filter p ns)) ≡ true) [
    | true ↦ and_from _ _ (and_parts _ _ h).0 (below_filter k ns (and_parts _ _ h).1)
    | false ↦ below_filter k ns (and_parts _ _ h).1
  ]

  pub rising_filter : (ns : List ℕ) → IsRising nat_cmp ns → IsRising nat_cmp (filter p ns)
  rising_filter [] h = refl
  rising_filter (x ∷ ns) h = elim (p x) as (λ b. IsRising nat_cmp (cond b (x ∷ filter p ns) (filter p ns))) [
    | true ↦ and_from _ _ (below_filter x ns (and_parts _ _ h).0) (rising_filter ns (and_parts _ _ h).1)
    | false ↦ rising_filter ns (and_parts _ _ h).1
  ]

-- ---- the counters of an origin

pub is_eq-then : (r s : Ordering) → is_eq (ordering_then r s) ≡ (is_eq r && is_eq s)
is_eq-then r s = grind arith

tied_origins : (a b : Origin) → eq_by_cmp origin_cmp a b ≡ (nat_eq b.node.0 a.node.0 && nat_eq b.inc a.inc)
tied_origins a b = is_eq-then (nat_cmp a.node.0 b.node.0) (nat_cmp a.inc b.inc) ∙ (λ i. turned a.node.0 b.node.0 i && turned a.inc b.inc i)

tied_dots : (o : Origin) (n : ℕ) (d : Dot) → eq_by_cmp dot_cmp (dot o n) d ≡ (is_of o d && eq_by_cmp nat_cmp n d.n)
tied_dots o n d = is_eq-then (origin_cmp o d.origin) (nat_cmp n d.n) ∙ ap (λ b. b && eq_by_cmp nat_cmp n d.n) (tied_origins o d.origin)

-- an origin's counters contain a counter exactly if the list contains the dot
pub has_key-counters : (o : Origin) (ds : List Dot) (n : ℕ) → has_key nat_cmp (counters_of o ds) n ≡ has_key dot_cmp ds (dot o n)
has_key-counters o [] n = refl
has_key-counters o (d ∷ ds) n =
    let ns = λ (xs : List Dot). map (λ (d : Dot). d.n) xs in
    elim (is_of o d) as (λ b. is_of o d ≡ b → has_key nat_cmp (ns (cond b (d ∷ filter (is_of o) ds) (filter (is_of o) ds))) n ≡ (eq_by_cmp dot_cmp (dot o n) d || has_key dot_cmp ds (dot o n))) [
      | true ↦ λ e. ap (λ h. eq_by_cmp nat_cmp n d.n || h) (has_key-counters o ds n) ∙ ap (λ b. b || has_key dot_cmp ds (dot o n)) (sym (tied_dots o n d ∙ ap (λ b. b && eq_by_cmp nat_cmp n d.n) e))
      | false ↦ λ e. has_key-counters o ds n ∙ ap (λ b. b || has_key dot_cmp ds (dot o n)) (sym (tied_dots o n d ∙ ap (λ b. b && eq_by_cmp nat_cmp n d.n) e))
    ] refl

-- if two dots of one origin are in order, so are their counters
below_dot : (o : Origin) (d e : Dot) → is_of o d ≡ true → is_of o e ≡ true → is_lt (dot_cmp d e) ≡ true → is_lt (nat_cmp d.n e.n) ≡ true
below_dot o d e at too h =
    let one : d.origin ≡ e.origin = equal_origins d.origin o at ∙ sym (equal_origins e.origin o too) in
    let level : origin_cmp d.origin e.origin ≡ Equal = ap (origin_cmp d.origin) (sym one) ∙ tied_itself origins_total d.origin in
    sym (ap (λ r. is_lt (ordering_then r (nat_cmp d.n e.n))) level) ∙ h

below_counters : (o : Origin) (d : Dot) (ds : List Dot) → is_of o d ≡ true → is_below_all dot_cmp d ds ≡ true → is_below_all nat_cmp d.n (counters_of o ds) ≡ true
below_counters o d [] at h = refl
below_counters o d (e ∷ ds) at h =
    let ns = λ (xs : List Dot). map (λ (d : Dot). d.n) xs in
    elim (is_of o e) as (λ b. is_of o e ≡ b → is_below_all nat_cmp d.n (ns (cond b (e ∷ filter (is_of o) ds) (filter (is_of o) ds))) ≡ true) [
      | true ↦ λ too. and_from _ _ (below_dot o d e at too (and_parts _ _ h).0) (below_counters o d ds at (and_parts _ _ h).1)
      | false ↦ λ _. below_counters o d ds at (and_parts _ _ h).1
    ] refl

pub rising_counters : (o : Origin) (ds : List Dot) → IsRising dot_cmp ds → IsRising nat_cmp (counters_of o ds)
rising_counters o [] h = refl
rising_counters o (d ∷ ds) h =
    let ns = λ (xs : List Dot). map (λ (d : Dot). d.n) xs in
    elim (is_of o d) as (λ b. is_of o d ≡ b → IsRising nat_cmp (ns (cond b (d ∷ filter (is_of o) ds) (filter (is_of o) ds)))) [
      | true ↦ λ at. and_from _ _ (below_counters o d ds at (and_parts _ _ h).0) (rising_counters o ds (and_parts _ _ h).1)
      | false ↦ λ _. rising_counters o ds (and_parts _ _ h).1
    ] refl
