-- The counters of spans one after another: index by index, and the further ones.
use Rattle.std.proofs.Common.{◌≡◌, ℕ, zero, suc, ◌+◌, ◌-◌, ◌<◌, ◌≤◌, true, false, cond, if◌then◌else◌, ◌||◌, ◌&&◌, nat_le, nat_lt, nat_eq, List, [], ◌∷◌, ◌++◌, drop, get_or, length, Some, None, refl, sym, ap, ◌∙◌, arith, add-one, drop-cons}
use Rattle.std.specs.Ordering.{nat_cmp}
use Rattle.std.specs.List.{slice_get}
use Rattle.std.proofs.lemmas.Bool.{and_parts, or_left, or_right, ltb-true, lt-ltb, ne_eqb}
use Rattle.std.proofs.lemmas.Bool.Decides.{nat_tests}
use Rattle.std.proofs.lemmas.List.Concat.{flat_map-cons}
use Rattle.std.proofs.lemmas.List.Elements.{filter-append}
use Rattle.dac_origins.specs.Keys.{is_below_all, has_key}
use Rattle.dac_dots.specs.laws.CounterLaws.{less}
use Rattle.dac_dots.specs.Rows.{further_of, reach_of}
use Rattle.dac_dots.specs.Spans.{from_on, counters_of_span, counters_in, are_apart, rest_of}
use Rattle.dac_dots.specs.Walking.{counters_along, counters_after, counters_left}
use Rattle.dac_dots.specs.declared.spans.Span.{Span}
use Rattle.dac_dots.proofs.SpanLemmas.{apart_first, apart_from, below_spans, has_counters, none_below, not_less, upto_first, upto_later}

-- ---- index by index

pub at_in : (f k i : ℕ) (rest : List ℕ) → i < k → slice_get (from_on f k ++ rest) i ≡ Some (f + i)
unfolding from_on
at_in f zero i rest p = absurd (omega arith)
at_in f (suc k) zero rest p = ap Some (sum f)
  where
    sum : (f : ℕ) → f ≡ f + 0
    sum f = omega arith
at_in f (suc k) (suc i) rest p = at_in (suc f) k i rest (omega arith) ∙ ap Some (sum f i)
  where
    sum : (f i : ℕ) → suc f + i ≡ f + suc i
    sum f i = omega arith

pub at_behind : (f k i j : ℕ) (rest : List ℕ) → j ≡ k + i → slice_get (from_on f k ++ rest) j ≡ slice_get rest i
unfolding from_on
at_behind f zero i j rest e = let same : j ≡ i = omega arith in ap (slice_get rest) same
at_behind f (suc k) i zero rest e = absurd (omega arith)
at_behind f (suc k) i (suc j) rest e = at_behind (suc f) k i j rest (omega arith)

-- the index lies in the first of the spans that remain, or after it
module _ (spans : List Span) (i : ℕ) (d : Span) (at : i < length spans) (left : ℕ) where
  here : slice_get (counters_along (drop i spans)) left ≡ slice_get (counters_along (get_or spans i d ∷ drop (suc i) spans)) left
  here = ap (λ l. slice_get (counters_along l) left) (drop-cons spans i d at)

  pub in_span : left < (get_or spans i d).last + 1 - (get_or spans i d).first → slice_get (counters_along (drop i spans)) left ≡ Some ((get_or spans i d).first + left)
  in_span p = here ∙ at_in (get_or spans i d).first (suc ((get_or spans i d).last - (get_or spans i d).first)) left (counters_along (drop (suc i) spans)) (omega arith)

  pub behind_span : (get_or spans i d).first ≤ (get_or spans i d).last → (rest : ℕ) → left ≡ ((get_or spans i d).last + 1 - (get_or spans i d).first) + rest → slice_get (counters_along (drop i spans)) left ≡ slice_get (counters_along (drop (i + 1) spans)) rest
  behind_span v rest e =
      here ∙ at_behind (get_or spans i d).first (suc ((get_or spans i d).last - (get_or spans i d).first)) rest left (counters_along (drop (suc i) spans)) (omega arith)
      ∙ ap (λ k. slice_get (counters_along (drop k spans)) rest) (sym (add-one i))

-- ---- the counters along spans

pub along_in : (low : ℕ) (spans : List Span) → are_apart low spans ≡ true → counters_along spans ≡ counters_in spans
unfolding counters_in counters_of_span
along_in low [] h = refl
along_in low (span ∷ spans) h =
    let is = apart_first low span spans h in
    let ends = is.1.0 in
    let long : suc (span.last - span.first) ≡ span.last + 1 - span.first = omega arith in
    (λ i. from_on span.first (long i) ++ along_in (span.last + 2) spans is.1.1 i) ∙ sym (flat_map-cons counters_of_span span spans)

-- the first counter of a span, and those that remain after it
pub after_first : (span : Span) (spans : List Span) → counters_along (span ∷ spans) ≡ span.first ∷ counters_left (rest_of span) spans
unfolding from_on
after_first span spans = ap (λ ns. span.first ∷ ns) (elim (nat_lt span.first span.last) as (λ b. nat_lt span.first span.last ≡ b → from_on (suc span.first) (span.last - span.first) ++ counters_along spans ≡ counters_left (if b then Some (record { first = span.first + 1; last = span.last }) else None) spans) [
  | true ↦ λ e.
      let more = ltb-true span.first span.last e in
      let next : suc span.first ≡ span.first + 1 = omega arith in
      let left : span.last - span.first ≡ suc (span.last - (span.first + 1)) = omega (arith, more) in
      (λ i. from_on (next i) (left i) ++ counters_along spans)
  | false ↦ λ e.
      let last : span.last ≤ span.first = not_less e in
      let none : span.last - span.first ≡ 0 = omega (arith, last) in
      ap (λ k. from_on (suc span.first) k ++ counters_along spans) none
] refl)

-- ---- the further counters

-- all counters above upto are further ones
pub all_further : (u : ℕ) (ns : List ℕ) → is_below_all nat_cmp u ns ≡ true → further_of u ns ≡ ns
all_further u [] h = refl
all_further u (n ∷ ns) h =
    ap (λ b. cond b (n ∷ further_of u ns) (further_of u ns)) (or_left (nat_lt u n) (nat_eq n 0) (lt-ltb u n (less u n (and_parts _ _ h).0)))
    ∙ ap (λ l. n ∷ l) (all_further u ns (and_parts _ _ h).1)

-- of those up to it, only 0 is
none_low : (u f k : ℕ) → 1 ≤ f → f + k ≤ u + 1 → further_of u (from_on f k) ≡ []
unfolding from_on
none_low u f zero p q = refl
none_low u f (suc k) p q = ap (λ b. cond b (f ∷ further_of u (from_on (suc f) k)) (further_of u (from_on (suc f) k))) (low u f (omega arith) p) ∙ none_low u (suc f) k (omega arith) (omega arith)
  where
    low : (u f : ℕ) → f ≤ u → 1 ≤ f → (nat_lt u f || nat_eq f 0) ≡ false
    low u f p q = grind (arith, nat_tests)

only_zero : (u f : ℕ) → f ≤ u → further_of u (from_on f (u + 1 - f)) ≡ cond (nat_eq f 0) (0 ∷ []) []
unfolding from_on
only_zero u zero p =
    let long : u + 1 - 0 ≡ suc u = omega arith in
    ap (λ k. further_of u (from_on 0 k)) long
    ∙ ap (λ b. cond b (0 ∷ further_of u (from_on 1 u)) (further_of u (from_on 1 u))) (or_right (nat_lt u 0) true refl)
    ∙ ap (λ l. 0 ∷ l) (none_low u 1 u (omega arith) (omega arith))
only_zero u (suc f) p = none_low u (suc f) (u + 1 - suc f) (omega arith) (omega arith) ∙ sym (ap (λ b. cond b (0 ∷ []) []) (ne_eqb (suc f) 0 (λ e. omega arith)))

-- by whether the first span begins no later than 1
pub further_first : (first : Span) (rest : List Span) → are_apart 0 (first ∷ rest) ≡ true → first.first ≤ 1 → counters_after (has_key nat_cmp (counters_in (first ∷ rest)) 0) rest ≡ further_of (reach_of (counters_in (first ∷ rest))) (counters_in (first ∷ rest))
unfolding counters_in counters_of_span
further_first first rest h low =
    let is = apart_first 0 first rest h in
    let ends = is.1.0 in
    let u = first.last in
    let zero_in : has_key nat_cmp (counters_in (first ∷ rest)) 0 ≡ nat_eq first.first 0 =
    has_counters (first ∷ rest) 0 ∙ ap (λ b. (nat_le first.first 0 && nat_le 0 u) || b) (none_below 0 (u + 2) rest (omega arith) is.1.1) ∙ first_zero first.first u ends in
    ap (λ b. counters_after b rest) zero_in
    ∙ sym (λ i. only_zero u first.first ends i ++ (all_further u (counters_in rest) (below_spans u (u + 2) rest (omega arith) is.1.1) ∙ sym (along_in (u + 2) rest is.1.1)) i)
    ∙ sym (filter-append (λ n. nat_lt u n || nat_eq n 0) (counters_of_span first) (counters_in rest))
    ∙ ap (further_of u) (sym (flat_map-cons counters_of_span first rest))
    ∙ ap (λ u. further_of u (counters_in (first ∷ rest))) (upto_first first rest h low)
  where
    first_zero : (f l : ℕ) → f ≤ l → ((nat_le f 0 && nat_le 0 l) || false) ≡ nat_eq f 0
    first_zero f l p = grind (arith, nat_tests)

pub further_later : (spans : List Span) → are_apart 2 spans ≡ true → counters_after (has_key nat_cmp (counters_in spans) 0) spans ≡ further_of (reach_of (counters_in spans)) (counters_in spans)
unfolding counters_in
further_later spans h =
    ap (λ b. counters_after b spans) (has_counters spans 0 ∙ none_below 0 2 spans (omega arith) h)
    ∙ along_in 2 spans h ∙ sym (all_further 0 (counters_in spans) (below_spans 0 2 spans (omega arith) h))
    ∙ ap (λ u. further_of u (counters_in spans)) (upto_later spans h)

pub begins_late : (first : Span) (rest : List Span) → are_apart 0 (first ∷ rest) ≡ true → 1 < first.first → are_apart 2 (first ∷ rest) ≡ true
begins_late first rest h late = let is = apart_first 0 first rest h in apart_from 2 first rest late is.1.0 is.1.1

pub none_begin : (spans : List Span) → length spans ≡ 0 → are_apart 2 spans ≡ true
none_begin [] e = refl
none_begin (span ∷ spans) e = absurd (omega arith)
