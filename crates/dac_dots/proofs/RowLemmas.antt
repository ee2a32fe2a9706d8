-- The counters of one origin: their number, and those before the first gap and further ones that make a row.
use Rattle.std.proofs.Common.{◌≡◌, ◌↔◌, ℕ, ◌+◌, ◌<◌, ◌≤◌, inl, inr, Bool, true, false, ◌||◌, ◌&&◌, nat_le, nat_lt, nat_eq, IsTrue, List, [], ◌∷◌, length, refl, sym, ap, ◌∙◌, arith, take, get_or, zero, suc, ◌^◌, cond}
use Rattle.std.specs.Ordering.{nat_cmp, eq_by_cmp, is_lt}
use Rattle.std.proofs.lemmas.Bool.{and_parts, and_from, or_cases, or_from, or_right, false≢true, cases_lt, le-leb, lt-ltb, le-ltb, ne_eqb, eqb-true, eqb-false}
use Rattle.std.proofs.lemmas.Bool.Decides.{nat_tests}
use Rattle.std.proofs.lemmas.Cmp.{nat_cmp_total}
use Rattle.std.proofs.lemmas.Map.Lookups.{exact_unsigned}
use Rattle.std.proofs.lemmas.List.{take_all}
use Rattle.std.proofs.lemmas.List.Folds.{list_any_more}
use Rattle.dac_origins.specs.Keys.{is_below_all, is_rising, IsRising, has_key}
use Rattle.dac_origins.specs.laws.InOrder.{same_rising, below_absent}
use Rattle.dac_dots.specs.laws.CounterLaws.{has_key-filter, rising_filter, same, less as number_less, is_less, below_more, grows, stays}
use Rattle.dac_dots.specs.laws.RowSets.{or_turn, rises_to}
use Rattle.dac_dots.specs.Rows.{reach_from, reach_of, further_of, HasSome, rises_on}
use Rattle.dac_origins.specs.declared.dot.Origin.{Origin}
use Rattle.dac_dots.proofs.SpanLemmas.{reaches}
use Rattle.dac_dots.proofs.AlongLemmas.{all_further}

-- ---- further counters that can follow

ascends_from : (low : ℕ) (ns : List ℕ) → IsRising nat_cmp (low ∷ ns) → rises_on low ns ≡ true
ascends_from low [] h = refl
ascends_from low (n ∷ ns) h =
    let parts = and_parts (is_below_all nat_cmp low (n ∷ ns)) (is_rising nat_cmp (n ∷ ns)) h in
    and_from _ _ (lt-ltb low n (number_less low n (and_parts (is_lt (nat_cmp low n)) (is_below_all nat_cmp low ns) parts.0).0)) (ascends_from n ns parts.1)

pub rises_both : (low : ℕ) (ns : List ℕ) (b : Bool) → b ≡ rises_on low ns → IsTrue b ↔ IsRising nat_cmp (low ∷ ns)
rises_both low ns b is = (λ yes. rises_to low ns (sym is ∙ yes), λ h. is ∙ ascends_from low ns h)

-- no number follows the greatest one
pub rises_at_end : (u : ℕ) (ns : List ℕ) → (u + 1 < 2 ^ 64 → ⊥) → ((i : ℕ) → get_or ns i 0 < 2 ^ 64) → nat_eq (length ns) 0 ≡ rises_on (u + 1) ns
rises_at_end u [] end fits = refl
rises_at_end u (x ∷ ns) end fits =
    let small : x < 2 ^ 64 = fits 0 in
    let high : 2 ^ 64 ≤ u + 1 = elim (cases_lt (u + 1) (2 ^ 64)) [ inl low ↦ absurd (end low) | inr p ↦ p ] in
    ne_eqb (length (x ∷ ns)) 0 (λ e. omega arith) ∙ sym (ap (λ b. b && rises_on x ns) (le-ltb (u + 1) x (omega arith)))

pub some_counters : (o : Origin) (upto : ℕ) (further : List ℕ) (b : Bool) → b ≡ false → ((upto ≡ 0) × (length further ≡ 0) → b ≡ true) → HasSome (record { origin = o; upto = upto; further = further })
some_counters o upto further b is says = elim (cases_lt 0 upto) [
  | inl p ↦ inl p
  | inr none ↦ elim (cases_lt 0 (length further)) [
    | inl p ↦ inr p
    | inr empty ↦ absurd (false≢true (sym is ∙ says (omega arith, omega arith)))
  ]
]

-- ---- the counters 1 to upto and others that ascend from above upto + 1

pub above_low : (low : ℕ) (ns : List ℕ) (n : ℕ) → is_below_all nat_cmp low ns ≡ true → has_key nat_cmp ns n ≡ true → low < n
above_low low [] n h e = absurd (false≢true e)
above_low low (x ∷ ns) n h e = elim (or_cases (eq_by_cmp nat_cmp n x) (has_key nat_cmp ns n) e) [
  | inl at ↦ let is = same n x at in let p = number_less low x (and_parts _ _ h).0 in omega arith
  | inr past ↦ above_low low ns n (and_parts _ _ h).1 past
]

module _ (upto : ℕ) (further counters : List ℕ) (can : IsRising nat_cmp ((upto + 1) ∷ further)) (rising : IsRising nat_cmp counters) (all : (n : ℕ) → has_key nat_cmp counters n ≡ (has_key nat_cmp further n || (nat_le 1 n && nat_le n upto))) where
  beyond_upto : is_below_all nat_cmp (upto + 1) further ≡ true
  beyond_upto = (and_parts (is_below_all nat_cmp (upto + 1) further) (is_rising nat_cmp further) can).0

  apart_from : (n : ℕ) → has_key nat_cmp further n ≡ true → upto + 1 < n
  apart_from n e = above_low (upto + 1) further n beyond_upto e

  pub goes_to : reach_of counters ≡ upto
  goes_to = sym (reaches counters rising upto (λ n p q. all n ∙ or_right _ _ (and_from _ _ (le-leb 1 n p) (le-leb n upto q)))
      (all (upto + 1) ∙ or_from _ _ (below_absent nat_cmp_total (upto + 1) further beyond_upto) (out upto)))
    where
      out : (u : ℕ) → (nat_le 1 (u + 1) && nat_le (u + 1) u) ≡ false
      out u = grind (arith, nat_tests)

  pub rest_is : further_of upto counters ≡ further
  rest_is = same_rising nat_cmp_total exact_unsigned (further_of upto counters) further (rising_filter (λ n. nat_lt upto n || nat_eq n 0) counters rising) (and_parts (is_below_all nat_cmp (upto + 1) further) (is_rising nat_cmp further) can).1
      (λ n. has_key-filter (λ n. nat_lt upto n || nat_eq n 0) counters n ∙ ap (λ b. (nat_lt upto n || nat_eq n 0) && b) (all n) ∙ alone n (has_key nat_cmp further n) (apart_from n))
    where
      alone : (n : ℕ) (b : Bool) → (b ≡ true → upto + 1 < n) → ((nat_lt upto n || nat_eq n 0) && (b || (nat_le 1 n && nat_le n upto))) ≡ b
      alone n true h = let p = h refl in grind (arith, nat_tests)
      alone n false h = grind (arith, nat_tests)

-- one more further counter is inserted
pub parts_more : (further : List ℕ) (upto i : ℕ) (old new : List ℕ) → i < length further → ((n : ℕ) → has_key nat_cmp old n ≡ (has_key nat_cmp (take i further) n || (nat_le 1 n && nat_le n upto))) → ((n : ℕ) → has_key nat_cmp new n ≡ (eq_by_cmp nat_cmp n (get_or further i 0) || has_key nat_cmp old n))
    → (n : ℕ) → has_key nat_cmp new n ≡ (has_key nat_cmp (take (i + 1) further) n || (nat_le 1 n && nat_le n upto))
parts_more further upto i old new p so_far one n =
    let inside = nat_le 1 n && nat_le n upto in
    let here = eq_by_cmp nat_cmp n (get_or further i 0) in
    one n ∙ ap (λ b. here || b) (so_far n) ∙ or_turn here (has_key nat_cmp (take i further) n) inside ∙ ap (λ b. b || inside) (sym (list_any_more (eq_by_cmp nat_cmp n) further i 0 p))

-- all further counters are inserted
pub all_parts : (upto : ℕ) (further counters : List ℕ) (i : ℕ) → length further ≤ i → ((n : ℕ) → has_key nat_cmp counters n ≡ (has_key nat_cmp (take i further) n || (nat_le 1 n && nat_le n upto)))
    → (n : ℕ) → has_key nat_cmp counters n ≡ (has_key nat_cmp further n || (nat_le 1 n && nat_le n upto))
all_parts upto further counters i end so_far n = so_far n ∙ ap (λ ns. has_key nat_cmp ns n || (nat_le 1 n && nat_le n upto)) (take_all i further end)

-- ---- the number of counters

-- of ascending counters above v: those before the first gap after v, and the others
length_past : (v : ℕ) (ns : List ℕ) → IsRising nat_cmp (v ∷ ns) → length ns + v ≡ reach_from v ns + length (further_of (reach_from v ns) ns)
length_past v [] h = omega arith
length_past v (n ∷ ns) h =
    let parts = and_parts (is_below_all nat_cmp v (n ∷ ns)) (is_rising nat_cmp (n ∷ ns)) h in
    let rest = and_parts (is_below_all nat_cmp n ns) (is_rising nat_cmp ns) parts.1 in
    let above : v < n = number_less v n (and_parts _ _ parts.0).0 in
    elim (nat_eq n (v + 1)) as (λ b. nat_eq n (v + 1) ≡ b → length (n ∷ ns) + v ≡ reach_from (cond b n v) ns + length (further_of (reach_from (cond b n v) ns) (n ∷ ns))) [
      | true ↦ λ e.
          let u = reach_from n ns in
          let is = eqb-true n (v + 1) e in
          let more = length_past n ns parts.1 in
          let low : length (further_of u (n ∷ ns)) ≡ length (further_of u ns) = ap (λ b. length (cond b (n ∷ further_of u ns) (further_of u ns))) (within u n v (grows n ns) above) in
          omega (arith, is, more, low)
      | false ↦ λ e.
          let other = eqb-false n (v + 1) e in
          let still = stays v ns (below_more (v + 1) n ns (omega (arith, above, other)) rest.0) in
          let all : length (further_of (reach_from v ns) (n ∷ ns)) ≡ length (n ∷ ns) = ap (λ u. length (further_of u (n ∷ ns))) still ∙ ap (λ (l : List ℕ). length l) (all_further v (n ∷ ns) parts.0) in
          omega (arith, still, all)
    ] refl
  where
    within : (u n v : ℕ) → n ≤ u → v < n → (nat_lt u n || nat_eq n 0) ≡ false
    within u n v p q = grind (arith, nat_tests)

length_parts : (ns : List ℕ) → IsRising nat_cmp ns → length ns ≡ reach_of ns + length (further_of (reach_of ns) ns)
length_parts [] h = refl
length_parts (zero ∷ ns) h =
    let more = length_past 0 ns h in
    let zero_in : length (further_of (reach_of ns) (0 ∷ ns)) ≡ suc (length (further_of (reach_of ns) ns)) = ap (λ b. length (cond b (0 ∷ further_of (reach_of ns) ns) (further_of (reach_of ns) ns))) (or_right (nat_lt (reach_of ns) 0) true refl) in
    omega (arith, more, zero_in)
length_parts (suc n ∷ ns) h =
    let parts = and_parts (is_below_all nat_cmp (suc n) ns) (is_rising nat_cmp ns) h in
    let more = length_past 0 (suc n ∷ ns) (and_from _ _ (and_from _ _ (is_less 0 (suc n) (omega arith)) (below_more 0 (suc n) ns (omega arith) parts.0)) h) in
    omega (arith, more)

-- ascending counters are those before the first gap and the further ones
pub further_length : (ns further : List ℕ) → IsRising nat_cmp ns → further_of (reach_of ns) ns ≡ further → length ns ≡ reach_of ns + length further
further_length ns further rising view = length_parts ns rising ∙ ap (λ (l : List ℕ). reach_of ns + length l) view
