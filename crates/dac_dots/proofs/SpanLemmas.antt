-- The counters of spans, and of joined spans.
use Rattle.std.proofs.Common.{◌≡◌, ℕ, zero, suc, ◌+◌, ◌-◌, ◌<◌, ◌≤◌, inl, inr, Bool, true, false, cond, ◌||◌, ◌&&◌, nat_le, nat_lt, List, [], ◌∷◌, ◌++◌, length, take, drop, get_or, min, max, refl, sym, ap, ◌∙◌, subst, arith, take-append-drop, length-append, length-drop}
use Rattle.std.specs.Ordering.{nat_cmp, eq_by_cmp}
use Rattle.std.specs.List.{flat_map, AllWithin}
use Rattle.std.specs.List.Sorted.{IsPartitionedBy}
use Rattle.std.proofs.lemmas.Bool.{and_parts, and_from, or_from, or_left, or_cases, false≢true, true≢false, leb-true, le-leb, leb-false, ltb-true, cases_lt, cases_eq, cases_order, lt-ltb, le-ltb}
use Rattle.std.proofs.lemmas.Bool.Decides.{nat_tests}
use Rattle.std.proofs.lemmas.List.{take_all}
use Rattle.std.proofs.lemmas.List.Concat.{flat_map-cons}
use Rattle.std.proofs.lemmas.List.Folds.{list_any-append, list_any_none, list_any_at}
use Rattle.dac_origins.specs.Keys.{is_below_all, is_rising, IsRising, has_key}
use Rattle.std.proofs.Math.Bool.{or_assoc}
use Rattle.dac_origins.specs.laws.InOrder.{or_swap}
use Rattle.dac_dots.specs.laws.CounterLaws.{is_less, on_the_way, ends_there}
use Rattle.dac_dots.specs.Rows.{IsGreatest, reach_of}
use Rattle.dac_dots.specs.Spans.{from_on, counters_of_span, counters_in, span_has, any_span, are_apart, AreSpans, HaveEnded, IsPlaceFor, hull, absorbed}
use Rattle.dac_dots.specs.declared.spans.Span.{Span}

-- ---- the counters of spans

none_from : (f n : ℕ) → false ≡ (nat_le f n && nat_lt n (f + 0))
none_from f n = grind (arith, nat_tests)

one_from : (f k n : ℕ) → (eq_by_cmp nat_cmp n f || (nat_le (suc f) n && nat_lt n (suc f + k))) ≡ (nat_le f n && nat_lt n (f + suc k))
one_from f k n = grind (arith, nat_tests)

has_from_on : (f k n : ℕ) → has_key nat_cmp (from_on f k) n ≡ (nat_le f n && nat_lt n (f + k))
unfolding from_on
has_from_on f zero n = none_from f n
has_from_on f (suc k) n = ap (λ b. eq_by_cmp nat_cmp n f || b) (has_from_on (suc f) k n) ∙ one_from f k n

to_last : (f l n : ℕ) → (nat_le f n && nat_lt n (f + (l + 1 - f))) ≡ (nat_le f n && nat_le n l)
to_last f l n = grind (arith, nat_tests)

pub has_span : (span : Span) (n : ℕ) → has_key nat_cmp (counters_of_span span) n ≡ span_has n span
unfolding counters_of_span
has_span span n = has_from_on span.first (span.last + 1 - span.first) n ∙ to_last span.first span.last n

has_spans : (spans : List Span) (n : ℕ) → has_key nat_cmp (flat_map counters_of_span spans) n ≡ any_span spans n
has_spans [] n = refl
has_spans (span ∷ spans) n =
    ap (λ (ns : List ℕ). has_key nat_cmp ns n) (flat_map-cons counters_of_span span spans)
    ∙ list_any-append (eq_by_cmp nat_cmp n) (counters_of_span span) (flat_map counters_of_span spans)
    ∙ (λ i. has_span span n i || has_spans spans n i)

pub has_counters : (spans : List Span) (n : ℕ) → has_key nat_cmp (counters_in spans) n ≡ any_span spans n
unfolding counters_in
has_counters spans n = has_spans spans n

-- ---- the counters ascend

below_from : (x f k : ℕ) → x < f → is_below_all nat_cmp x (from_on f k) ≡ true
unfolding from_on
below_from x f zero p = refl
below_from x f (suc k) p = and_from _ _ (is_less x f p) (below_from x (suc f) k (omega arith))

pub below_append : (x : ℕ) (xs ys : List ℕ) → is_below_all nat_cmp x xs ≡ true → is_below_all nat_cmp x ys ≡ true → is_below_all nat_cmp x (xs ++ ys) ≡ true
below_append x [] ys g h = h
below_append x (y ∷ xs) ys g h = and_from _ _ (and_parts _ _ g).0 (below_append x xs ys (and_parts _ _ g).1 h)

pub rising_after : (f k : ℕ) (ys : List ℕ) → ((x : ℕ) → x < f + k → is_below_all nat_cmp x ys ≡ true) → IsRising nat_cmp ys → IsRising nat_cmp (from_on f k ++ ys)
unfolding from_on
rising_after f zero ys below h = h
rising_after f (suc k) ys below h =
    and_from _ _ (below_append f (from_on (suc f) k) ys (below_from f (suc f) k (omega arith)) (below f (omega arith))) (rising_after (suc f) k ys (λ x p. below x (omega arith)) h)

pub below_span : (x : ℕ) (span : Span) → x < span.first → is_below_all nat_cmp x (counters_of_span span) ≡ true
unfolding counters_of_span
below_span x span p = below_from x span.first (span.last + 1 - span.first) p

-- are_apart, unfolded for the first span
pub apart_first : (low : ℕ) (span : Span) (spans : List Span) → are_apart low (span ∷ spans) ≡ true → (low ≤ span.first) × ((span.first ≤ span.last) × (are_apart (span.last + 2) spans ≡ true))
apart_first low span spans h =
    let parts = and_parts (nat_le low span.first) (nat_le span.first span.last && are_apart (span.last + 2) spans) h in
    let rest = and_parts (nat_le span.first span.last) (are_apart (span.last + 2) spans) parts.1 in
    (leb-true low span.first parts.0, (leb-true span.first span.last rest.0, rest.1))

pub apart_from : (low : ℕ) (span : Span) (spans : List Span) → low ≤ span.first → span.first ≤ span.last → are_apart (span.last + 2) spans ≡ true → are_apart low (span ∷ spans) ≡ true
apart_from low span spans p q h = and_from _ _ (le-leb low span.first p) (and_from _ _ (le-leb span.first span.last q) h)

pub apart_lower : (low more : ℕ) (spans : List Span) → low ≤ more → are_apart more spans ≡ true → are_apart low spans ≡ true
apart_lower low more [] p h = refl
apart_lower low more (span ∷ spans) p h = let is = apart_first more span spans h in let q = is.0 in apart_from low span spans (omega arith) is.1.0 is.1.1

pub below_spans : (x low : ℕ) (spans : List Span) → x < low → are_apart low spans ≡ true → is_below_all nat_cmp x (flat_map counters_of_span spans) ≡ true
below_spans x low [] p h = refl
below_spans x low (span ∷ spans) p h =
    let is = apart_first low span spans h in
    let q = is.0 in
    let r = is.1.0 in
    ap (is_below_all nat_cmp x) (flat_map-cons counters_of_span span spans)
    ∙ below_append x (counters_of_span span) (flat_map counters_of_span spans) (below_span x span (omega arith)) (below_spans x (span.last + 2) spans (omega arith) is.1.1)

rising_spans : (low : ℕ) (spans : List Span) → are_apart low spans ≡ true → IsRising nat_cmp (flat_map counters_of_span spans)
unfolding counters_of_span
rising_spans low [] h = refl
rising_spans low (span ∷ spans) h =
    let is = apart_first low span spans h in
    let q = is.1.0 in
    ap (is_rising nat_cmp) (flat_map-cons counters_of_span span spans)
    ∙ rising_after span.first (span.last + 1 - span.first) (flat_map counters_of_span spans) (λ x p. below_spans x (span.last + 2) spans (omega arith) is.1.1) (rising_spans (span.last + 2) spans is.1.1)

pub rising_counters : (low : ℕ) (spans : List Span) → are_apart low spans ≡ true → IsRising nat_cmp (counters_in spans)
unfolding counters_in
rising_counters low spans h = rising_spans low spans h

-- ---- indices of spans with gaps between them

out_before : (n f l : ℕ) → n < f → (nat_le f n && nat_le n l) ≡ false
out_before n f l p = grind (arith, nat_tests)

-- no span that begins after the counter contains it
pub none_below : (n low : ℕ) (spans : List Span) → n < low → are_apart low spans ≡ true → any_span spans n ≡ false
none_below n low [] p h = refl
none_below n low (span ∷ spans) p h =
    let is = apart_first low span spans h in
    let q = is.0 in
    let r = is.1.0 in
    let out : span_has n span ≡ false = out_before n span.first span.last (omega arith) in
    ap (λ b. b || any_span spans n) out ∙ none_below n (span.last + 2) spans (omega arith) is.1.1

-- no span is empty, and each begins at low or later
pub apart_at : (low : ℕ) (spans : List Span) → are_apart low spans ≡ true → (i : ℕ) (d : Span) → i < length spans → (low ≤ (get_or spans i d).first) × ((get_or spans i d).first ≤ (get_or spans i d).last)
apart_at low [] h i d p = absurd (omega arith)
apart_at low (span ∷ spans) h zero d p = let is = apart_first low span spans h in (is.0, is.1.0)
apart_at low (span ∷ spans) h (suc i) d p =
    let is = apart_first low span spans h in
    let more = apart_at (span.last + 2) spans is.1.1 i d (omega arith) in
    let a = is.0 in
    let b = is.1.0 in
    let c = more.0 in
    (omega arith, more.1)

-- a later span ends later
pub ends_rise : (low : ℕ) (spans : List Span) → are_apart low spans ≡ true → (i j : ℕ) (d : Span) → i ≤ j → j < length spans → (get_or spans i d).last ≤ (get_or spans j d).last
ends_rise low [] h i j d p q = absurd (omega arith)
ends_rise low (span ∷ spans) h zero zero d p q = omega arith
ends_rise low (span ∷ spans) h zero (suc j) d p q =
    let is = apart_first low span spans h in
    let more = apart_at (span.last + 2) spans is.1.1 j d (omega arith) in
    let a = more.0 in
    let b = more.1 in
    omega arith
ends_rise low (span ∷ spans) h (suc i) zero d p q = absurd (omega arith)
ends_rise low (span ∷ spans) h (suc i) (suc j) d p q = ends_rise (span.last + 2) spans (apart_first low span spans h).1.1 i j d (omega arith) (omega arith)

-- ---- joining spans

-- the span begins no later than one past the end of the next
abbrev pub IsNext : Span → List Span → Type 0
IsNext span [] = Unit {0}
IsNext span (next ∷ spans) = span.first ≤ next.last + 1

joined_has : (a b c d n : ℕ) → a ≤ b → c ≤ d → a ≤ d + 1 → c ≤ b + 1 → (nat_le (min a c) n && nat_le n (max b d)) ≡ ((nat_le a n && nat_le n b) || (nat_le c n && nat_le n d))
joined_has a b c d n p q r s = grind (arith, nat_tests)

hull_next : (span next : Span) (spans : List Span) → next.first ≤ next.last → span.first ≤ next.last + 1 → are_apart (next.last + 2) spans ≡ true → IsNext (hull span next) spans
hull_next span next [] v p h = tt
hull_next span next (after ∷ spans) v p h =
    let is = apart_first (next.last + 2) after spans h in
    let a = is.0 in
    let b = is.1.0 in
    omega arith

pub absorbed_has : (span : Span) (spans : List Span) (low : ℕ) → span.first ≤ span.last → IsNext span spans → are_apart low spans ≡ true → (n : ℕ) → any_span (absorbed span spans) n ≡ (span_has n span || any_span spans n)
absorbed_has span [] low v at h n = refl
absorbed_has span (next ∷ spans) low v at h n =
    let is = apart_first low next spans h in
    let w = is.1.0 in
    elim (nat_le next.first (span.last + 1)) as (λ b. nat_le next.first (span.last + 1) ≡ b → any_span (cond b (absorbed (hull span next) spans) (span ∷ next ∷ spans)) n ≡ (span_has n span || (span_has n next || any_span spans n))) [
      | true ↦ λ e.
          absorbed_has (hull span next) spans (next.last + 2) (omega arith) (hull_next span next spans w at is.1.1) is.1.1 n
          ∙ ap (λ b. b || any_span spans n) (joined_has span.first span.last next.first next.last n v w at (leb-true _ _ e))
          ∙ or_assoc (span_has n span) (span_has n next) (any_span spans n)
      | false ↦ λ e. refl
    ] refl

pub absorbed_apart : (span : Span) (spans : List Span) (low : ℕ) → span.first ≤ span.last → low ≤ span.first → are_apart low spans ≡ true → are_apart low (absorbed span spans) ≡ true
absorbed_apart span [] low v p h = apart_from low span [] p v refl
absorbed_apart span (next ∷ spans) low v p h =
    let is = apart_first low next spans h in
    let q = is.0 in
    let w = is.1.0 in
    elim (nat_le next.first (span.last + 1)) as (λ b. nat_le next.first (span.last + 1) ≡ b → are_apart low (cond b (absorbed (hull span next) spans) (span ∷ next ∷ spans)) ≡ true) [
      | true ↦ λ e. absorbed_apart (hull span next) spans low (omega arith) (omega arith) (apart_lower low (next.last + 2) spans (omega arith) is.1.1)
      | false ↦ λ e. let far = leb-false _ _ e in apart_from low span (next ∷ spans) p v (apart_from (span.last + 2) next spans (omega arith) w is.1.1)
    ] refl

-- ---- inserting a span

rest_place : (span : Span) (spans : List Span) (place first : ℕ) → IsPlaceFor (span ∷ spans) (suc place) first → IsPlaceFor spans place first
rest_place span spans place first is = record {
  within = let p = is.within in omega arith;
  before = λ j d p q. is.before (suc j) d (omega arith) (omega arith);
  after = λ j d p q. is.after (suc j) d (omega arith) (omega arith);
}

not_far : (l f : ℕ) → nat_lt (l + 1) f ≡ false → f ≤ l + 1
not_far l f e = grind (arith, nat_tests)

is_far : (l f : ℕ) → nat_lt (l + 1) f ≡ true → l + 2 ≤ f
is_far l f e = grind (arith, nat_tests)

next_at_place : (span : Span) (spans : List Span) → IsPlaceFor spans 0 span.first → IsNext span spans
next_at_place span [] is = tt
next_at_place span (next ∷ spans) is = not_far next.last span.first (is.after 0 next (omega arith) (omega arith))

pub put_has : (span : Span) (spans : List Span) (place low : ℕ) → span.first ≤ span.last → IsPlaceFor spans place span.first → are_apart low spans ≡ true → (n : ℕ) → any_span (take place spans ++ absorbed span (drop place spans)) n ≡ (span_has n span || any_span spans n)
put_has span spans zero low v at h n = absorbed_has span spans low v (next_at_place span spans at) h n
put_has span [] (suc place) low v at h n = absurd (let p = at.within in omega arith)
put_has span (next ∷ spans) (suc place) low v at h n =
    ap (λ b. span_has n next || b) (put_has span spans place (next.last + 2) v (rest_place next spans place span.first at) (apart_first low next spans h).1.1 n) ∙ or_swap (span_has n next) (span_has n span) (any_span spans n)

pub put_apart : (span : Span) (spans : List Span) (place low : ℕ) → span.first ≤ span.last → low ≤ span.first → IsPlaceFor spans place span.first → are_apart low spans ≡ true → are_apart low (take place spans ++ absorbed span (drop place spans)) ≡ true
put_apart span spans zero low v p at h = absorbed_apart span spans low v p h
put_apart span [] (suc place) low v p at h = absurd (let q = at.within in omega arith)
put_apart span (next ∷ spans) (suc place) low v p at h =
    let is = apart_first low next spans h in
    apart_from low next (take place spans ++ absorbed span (drop place spans)) is.0 is.1.0
    (put_apart span spans place (next.last + 2) v (is_far next.last span.first (at.before 0 next (omega arith) (omega arith))) (rest_place next spans place span.first at) is.1.1)

-- ---- results of searches

pub get_or_same : (spans : List Span) (i : ℕ) (d e : Span) → i < length spans → get_or spans i d ≡ get_or spans i e
get_or_same [] i d e p = absurd (omega arith)
get_or_same (span ∷ spans) zero d e p = refl
get_or_same (span ∷ spans) (suc i) d e p = get_or_same spans i d e (omega arith)

pub not_less : {a b : ℕ} → nat_lt a b ≡ false → b ≤ a
not_less {a} {b} e = grind (arith, nat_tests)

less_from : (a b c : ℕ) → a ≤ b → nat_lt b c ≡ true → nat_lt a c ≡ true
less_from a b c p e = grind (arith, nat_tests)

pub parted_by_end : (first : ℕ) (spans : List Span) → are_apart 0 spans ≡ true → IsPartitionedBy (λ (span : Span). nat_lt span.last first) spans
parted_by_end first spans h i j d p q e = less_from _ _ first (ends_rise 0 spans h i j d p q) e

pub parted_by_gap : (first : ℕ) (spans : List Span) → are_apart 0 spans ≡ true → IsPartitionedBy (λ (span : Span). nat_lt (span.last + 1) first) spans
parted_by_gap first spans h i j d p q e = less_from _ _ first (let more = ends_rise 0 spans h i j d p q in omega arith) e

pub begins_later : (low : ℕ) (spans : List Span) → are_apart low spans ≡ true → (i j : ℕ) (d : Span) → i < j → j < length spans → (get_or spans i d).last + 2 ≤ (get_or spans j d).first
begins_later low [] h i j d p q = absurd (omega arith)
begins_later low (span ∷ spans) h i zero d p q = absurd (omega arith)
begins_later low (span ∷ spans) h zero (suc j) d p q = (apart_at (span.last + 2) spans (apart_first low span spans h).1.1 j d (omega arith)).0
begins_later low (span ∷ spans) h (suc i) (suc j) d p q = begins_later (span.last + 2) spans (apart_first low span spans h).1.1 i j d (omega arith) (omega arith)

out_after : (n f l : ℕ) → l < n → (nat_le f n && nat_le n l) ≡ false
out_after n f l p = grind (arith, nat_tests)

-- if the first span doesn't end before a counter, none does
pub none_ended : (spans : List Span) → are_apart 0 spans ≡ true → (first : Span) → 0 < length spans → first ≡ get_or spans 0 first → (n : ℕ) → n ≤ first.last → HaveEnded spans 0 n
none_ended spans h first some is n low = (
  λ j d p q. absurd (omega arith),
  λ j d p q.
      let more = ends_rise 0 spans h 0 j d (omega arith) q in
      let same : (get_or spans 0 d).last ≡ first.last = ap (λ (r : Span). r.last) (get_or_same spans 0 d first some ∙ sym is) in
      le-ltb (get_or spans j d).last n (omega arith),
)

-- if the last span ends before a counter with a gap, all do
pub place_at_end : (spans : List Span) → are_apart 0 spans ≡ true → (last : Span) → 0 < length spans → last ≡ get_or spans (length spans - 1) last → (n : ℕ) → nat_lt (last.last + 1) n ≡ true → IsPlaceFor spans (length spans) n
place_at_end spans h last some is n far = record {
  within = omega arith;
  before = λ j d p q.
      let more = ends_rise 0 spans h j (length spans - 1) d (omega arith) (omega arith) in
      let same : (get_or spans (length spans - 1) d).last ≡ last.last = ap (λ (r : Span). r.last) (get_or_same spans (length spans - 1) d last (omega arith) ∙ sym is) in
      less_from _ _ n (omega arith) far;
  after = λ j d p q. absurd (omega arith);
}

-- if the last span begins no later than a counter and doesn't end before it with a gap, all the others do
pub place_at_last : (spans : List Span) → are_apart 0 spans ≡ true → (last : Span) → 0 < length spans → last ≡ get_or spans (length spans - 1) last → (n : ℕ) → nat_lt (last.last + 1) n ≡ false → last.first ≤ n → IsPlaceFor spans (length spans - 1) n
place_at_last spans h last some is n near low = record {
  within = omega arith;
  before = λ j d p q.
      let later = begins_later 0 spans h j (length spans - 1) d q (omega arith) in
      let same : (get_or spans (length spans - 1) d).first ≡ last.first = ap (λ (r : Span). r.first) (get_or_same spans (length spans - 1) d last (omega arith) ∙ sym is) in
      lt-ltb _ n (omega arith);
  after = λ j d p q.
      let at : j ≡ length spans - 1 = omega arith in
      let same : get_or spans j d ≡ last = ap (λ k. get_or spans k d) at ∙ get_or_same spans (length spans - 1) d last (omega arith) ∙ sym is in
      ap (λ (r : Span). nat_lt (r.last + 1) n) same ∙ near;
}

-- a number between spans is in none
none_between : (spans : List Span) (place n : ℕ) → AllWithin (λ (span : Span). span.last < n) spans 0 place → AllWithin (λ (span : Span). n < span.first) spans place (length spans) → any_span spans n ≡ false
none_between spans place n low high = list_any_none (span_has n) spans (λ j d p. elim (cases_lt j place) [
  | inl q ↦ out_after n _ _ (low j d (omega arith) q)
  | inr q ↦ out_before n _ _ (high j d q p)
])

-- a span's counters are in a set exactly if one span of the set, which the search finds, contains it
module _ (spans : List Span) (h : are_apart 0 spans ≡ true) (now : List ℕ) (view : counters_in spans ≡ now) where
  pub has_now : (n : ℕ) → has_key nat_cmp now n ≡ any_span spans n
  has_now n = ap (λ ns. has_key nat_cmp ns n) (sym view) ∙ has_counters spans n

module _ (spans : List Span) (h : are_apart 0 spans ≡ true) (now : List ℕ) (view : counters_in spans ≡ now) (span : Span) (valid : span.first ≤ span.last) where
  abbrev HasAll : Type 0
  HasAll = (n : ℕ) → span_has n span ≡ true → has_key nat_cmp now n ≡ true

  lacks : (n : ℕ) → span.first ≤ n → n ≤ span.last → any_span spans n ≡ false → HasAll → ⊥
  lacks n p q out all = false≢true (sym out ∙ sym (has_now spans h now view n) ∙ all n (and_from _ _ (le-leb span.first n p) (le-leb n span.last q)))

  module _ (place : ℕ) (point : HaveEnded spans place span.first) where
    before : AllWithin (λ (r : Span). r.last < span.first) spans 0 place
    before j d p q = ltb-true _ _ (point.0 j d p q)

    pub none_found : length spans ≤ place → HasAll → ⊥
    none_found end = lacks span.first (omega arith) valid (none_between spans place span.first before (λ j d p q. absurd (omega arith)))

    module _ (found : Span) (within : place < length spans) (is : found ≡ get_or spans place found) where
      pub begins_past : span.first < found.first → HasAll → ⊥
      begins_past past = lacks span.first (omega arith) valid (none_between spans place span.first before (λ j d p q. elim (cases_eq place j) [
        | inl at ↦ subst (λ k. span.first < (get_or spans k d).first) at (let same : (get_or spans place d).first ≡ found.first = ap (λ (r : Span). r.first) (get_or_same spans place d found within ∙ sym is) in omega arith)
        | inr other ↦
            let later = begins_later 0 spans h place j d (omega arith) q in
            let valid_at = apart_at 0 spans h place d within in
            let same : (get_or spans place d).first ≡ found.first = ap (λ (r : Span). r.first) (get_or_same spans place d found within ∙ sym is) in
            let long = valid_at.1 in
            omega arith
      ]))

      pub ends_past : found.first ≤ span.first → found.last < span.last → HasAll → ⊥
      ends_past low past = lacks (found.last + 1) (omega (arith, not_before)) (omega arith) (none_between spans (place + 1) (found.last + 1)
          (λ j d p q. elim (cases_lt j place) [
            | inl lt ↦ let early = before j d p lt in omega (arith, not_before)
            | inr ge ↦ let at : j ≡ place = omega arith in let same : (get_or spans j d).last ≡ found.last = ap (λ (r : Span). r.last) (ap (λ k. get_or spans k d) at ∙ get_or_same spans place d found within ∙ sym is) in omega arith
          ])
          (λ j d p q.
          let later = begins_later 0 spans h place j d (omega arith) q in
          let same : (get_or spans place d).last ≡ found.last = ap (λ (r : Span). r.last) (get_or_same spans place d found within ∙ sym is) in
          omega arith))
        where
          not_before : span.first ≤ found.last
          not_before = subst (λ (r : Span). span.first ≤ r.last) (sym is) (not_less (point.1 place found (omega arith) within))

      pub lies_within : found.first ≤ span.first → span.last ≤ found.last → HasAll
      lies_within low high n e =
          let parts = and_parts _ _ e in
          let p : span.first ≤ n = leb-true _ _ parts.0 in
          let q : n ≤ span.last = leb-true _ _ parts.1 in
          has_now spans h now view n ∙ list_any_at (span_has n) spans place found within (subst (λ (r : Span). span_has n r ≡ true) is (and_from _ _ (le-leb found.first n (omega arith)) (le-leb n found.last (omega arith))))

-- ---- a span that touches no other

middle_from : (low : ℕ) (xs : List Span) (span : Span) (ys : List Span) → are_apart low (xs ++ span ∷ ys) ≡ true → low ≤ span.first
middle_from low [] span ys h = (apart_first low span ys h).0
middle_from low (x ∷ xs) span ys h =
    let is = apart_first low x (xs ++ span ∷ ys) h in
    let a = is.0 in
    let b = is.1.0 in
    let c = middle_from (x.last + 2) xs span ys is.1.1 in
    omega arith

apart_middle : (low : ℕ) (xs : List Span) (span : Span) (ys : List Span) → are_apart low (xs ++ span ∷ ys) ≡ true → (n : ℕ) → span_has n span ≡ true → any_span (xs ++ ys) n ≡ false
apart_middle low [] span ys h n e =
    let high : n ≤ span.last = leb-true n span.last (and_parts (nat_le span.first n) (nat_le n span.last) e).1 in
    none_below n (span.last + 2) ys (omega arith) (apart_first low span ys h).1.1
apart_middle low (x ∷ xs) span ys h n e =
    let is = apart_first low x (xs ++ span ∷ ys) h in
    let from : x.last + 2 ≤ span.first = middle_from (x.last + 2) xs span ys is.1.1 in
    let begins : span.first ≤ n = leb-true span.first n (and_parts (nat_le span.first n) (nat_le n span.last) e).0 in
    ap (λ b. b || any_span (xs ++ ys) n) (out_after n x.first x.last (omega arith)) ∙ apart_middle (x.last + 2) xs span ys is.1.1 n e

pub put_alone : (span : Span) (spans : List Span) (place : ℕ) → span.first ≤ span.last → IsPlaceFor spans place span.first → are_apart 0 spans ≡ true → absorbed span (drop place spans) ≡ span ∷ drop place spans → (n : ℕ) → span_has n span ≡ true → any_span spans n ≡ false
put_alone span spans place v at h is n e =
    ap (λ l. any_span l n) (sym (take-append-drop place spans))
    ∙ apart_middle 0 (take place spans) span (drop place spans) (ap (λ l. are_apart 0 (take place spans ++ l)) (sym is) ∙ put_apart span spans place 0 v (omega arith) at h) n e

-- ---- one span, or two

pub one_counter : (n : ℕ) → counters_in (record { first = n; last = n } ∷ []) ≡ n ∷ []
unfolding counters_in counters_of_span from_on
one_counter n = ap (λ k. from_on n k ++ []) (alone n)
  where
    alone : (n : ℕ) → n + 1 - n ≡ 1
    alone n = omega arith

-- ---- the last counter, and the first gap

last_holds : (low : ℕ) (spans : List Span) → are_apart low spans ≡ true → (i : ℕ) (d : Span) → suc i ≡ length spans → (n : ℕ) → any_span spans n ≡ true → n ≤ (get_or spans i d).last
last_holds low [] h i d at n e = absurd (omega arith)
last_holds low (span ∷ spans) h zero d at n e = elim (or_cases (span_has n span) (any_span spans n) e) [
  | inl here ↦ leb-true n span.last (and_parts (nat_le span.first n) (nat_le n span.last) here).1
  | inr past ↦ absurd (none spans (omega arith) past)
]
  where
    none : (l : List Span) → length l ≡ 0 → any_span l n ≡ true → ⊥
    none [] p e = false≢true e
    none (x ∷ l) p e = omega arith
last_holds low (span ∷ spans) h (suc i) d at n e = elim (or_cases (span_has n span) (any_span spans n) e) [
  | inl here ↦
      let high : n ≤ span.last = leb-true n span.last (and_parts (nat_le span.first n) (nat_le n span.last) here).1 in
      let more = ends_rise low (span ∷ spans) h 0 (suc i) d (omega arith) (omega arith) in
      omega arith
  | inr past ↦ last_holds (span.last + 2) spans (apart_first low span spans h).1.1 i d (omega arith) n past
]

pub last_found : (spans : List Span) → are_apart 0 spans ≡ true → (now : List ℕ) → counters_in spans ≡ now → (last : Span) → 0 < length spans → last ≡ get_or spans (length spans - 1) last → IsGreatest now last.last
last_found spans h now view last some is =
    let has = λ (n : ℕ). ap (λ ns. has_key nat_cmp ns n) (sym view) ∙ has_counters spans n in
    let valid = (apart_at 0 spans h (length spans - 1) last (omega arith)).1 in
    record {
      above = λ n e. subst (λ (r : Span). n ≤ r.last) (sym is) (last_holds 0 spans h (length spans - 1) last (omega arith) n (sym (has n) ∙ e));
      there = inr (has last.last ∙ list_any_at (span_has last.last) spans (length spans - 1) last (omega arith) (subst (λ (r : Span). span_has last.last r ≡ true) is (and_from _ _ (le-leb last.first last.last (subst (λ (r : Span). r.first ≤ r.last) (sym is) valid)) (le-leb last.last last.last (omega arith)))));
    }

pub last_none : (spans : List Span) (now : List ℕ) → counters_in spans ≡ now → length spans ≤ 0 → IsGreatest now 0
last_none [] now view none = record { above = λ n e. absurd (false≢true (sym (ap (λ ns. has_key nat_cmp ns n) (sym view) ∙ has_counters [] n) ∙ e)); there = inl refl }
last_none (span ∷ spans) now view none = absurd (omega arith)

-- the last counter before the first gap is the one after which a counter is missing
pub reaches : (ns : List ℕ) → IsRising nat_cmp ns → (u : ℕ) → ((n : ℕ) → 1 ≤ n → n ≤ u → has_key nat_cmp ns n ≡ true) → has_key nat_cmp ns (u + 1) ≡ false → u ≡ reach_of ns
reaches ns rising u all end = elim (cases_order u (reach_of ns)) [
  | inl is ↦ is
  | inr (inl less) ↦ absurd (true≢false (sym (on_the_way 0 (u + 1) ns (omega arith) (omega arith)) ∙ end))
  | inr (inr more) ↦ absurd (true≢false (sym (all (reach_of ns + 1) (omega arith) (omega arith)) ∙ ends_there 0 ns rising))
]

-- by whether the first span begins no later than 1
pub upto_first : (first : Span) (rest : List Span) → are_apart 0 (first ∷ rest) ≡ true → first.first ≤ 1 → first.last ≡ reach_of (counters_in (first ∷ rest))
upto_first first rest h low =
    reaches (counters_in (first ∷ rest)) (rising_counters 0 (first ∷ rest) h) first.last
    (λ n p q. has_counters (first ∷ rest) n ∙ or_left _ _ (and_from _ _ (le-leb first.first n (omega arith)) (le-leb n first.last q)))
    (has_counters (first ∷ rest) (first.last + 1) ∙ or_from _ _ (out_after (first.last + 1) first.first first.last (omega arith)) (none_below (first.last + 1) (first.last + 2) rest (omega arith) (apart_first 0 first rest h).1.1))

pub upto_later : (spans : List Span) → are_apart 2 spans ≡ true → 0 ≡ reach_of (counters_in spans)
upto_later spans h = reaches (counters_in spans) (rising_counters 2 spans h) 0 (λ n p q. absurd (omega arith)) (has_counters spans 1 ∙ none_below 1 2 spans (omega arith) h)

-- ---- no spans

pub no_spans : counters_in [] ≡ []
unfolding counters_in
no_spans = refl

-- no span is empty
pub valid_spans : (low : ℕ) (spans : List Span) → are_apart low spans ≡ true → AreSpans spans
valid_spans low [] h = tt
valid_spans low (span ∷ spans) h = let is = apart_first low span spans h in (is.1.0, valid_spans (span.last + 2) spans is.1.1)

pub valid_at : (spans : List Span) → AreSpans spans → (i : ℕ) (d : Span) → i < length spans → (get_or spans i d).first ≤ (get_or spans i d).last
valid_at [] all i d p = absurd (omega arith)
valid_at (span ∷ spans) all zero d p = all.0
valid_at (span ∷ spans) all (suc i) d p = valid_at spans all.1 i d (omega arith)

-- ---- one more span

-- the counters of a span of the set are in the set
pub span_within : (spans : List Span) (now : List ℕ) → counters_in spans ≡ now → (i : ℕ) (d : Span) → i < length spans → (n : ℕ) → span_has n (get_or spans i d) ≡ true → has_key nat_cmp now n ≡ true
span_within spans now view i d p n e = ap (λ ns. has_key nat_cmp ns n) (sym view) ∙ has_counters spans n ∙ list_any_at (span_has n) spans i d p e

-- ---- the number of counters

length_from_on : (f k : ℕ) → length (from_on f k) ≡ k
unfolding from_on
length_from_on f zero = refl
length_from_on f (suc k) = let more = length_from_on (suc f) k in omega arith

length_of_span : (span : Span) → length (counters_of_span span) ≡ span.last + 1 - span.first
unfolding counters_of_span
length_of_span span = length_from_on span.first (span.last + 1 - span.first)

len_cons : (span : Span) (spans : List Span) → length (counters_in (span ∷ spans)) ≡ (span.last + 1 - span.first) + length (counters_in spans)
unfolding counters_in
len_cons span spans = ap (λ (ns : List ℕ). length ns) (flat_map-cons counters_of_span span spans) ∙ length-append (counters_of_span span) (flat_map counters_of_span spans) ∙ ap (λ k. k + length (flat_map counters_of_span spans)) (length_of_span span)

pub len_more : (spans : List Span) (i : ℕ) (d : Span) → i < length spans → length (counters_in (take (suc i) spans)) ≡ length (counters_in (take i spans)) + ((get_or spans i d).last + 1 - (get_or spans i d).first)
len_more [] i d p = absurd (omega arith)
len_more (span ∷ spans) zero d p = let one = len_cons span [] in omega arith
len_more (span ∷ spans) (suc i) d p =
    let one = len_cons span (take (suc i) spans) in
    let two = len_cons span (take i spans) in
    let more = len_more spans i d (omega arith) in
    omega arith

-- spans have no more counters than there are numbers up to the last
pub len_span : (low : ℕ) (spans : List Span) → are_apart low spans ≡ true → (i : ℕ) (d : Span) → i < length spans → low + length (counters_in (take (suc i) spans)) ≤ (get_or spans i d).last + 1
len_span low [] h i d p = absurd (omega arith)
len_span low (span ∷ spans) h zero d p =
    let is = apart_first low span spans h in
    let a : low ≤ span.first = is.0 in
    let b : span.first ≤ span.last = is.1.0 in
    let one : length (counters_in (take (suc zero) (span ∷ spans))) ≡ (span.last + 1 - span.first) + length (counters_in []) = len_cons span [] in
    let none : length (counters_in []) ≡ 0 = ap (λ (ns : List ℕ). length ns) no_spans in
    omega arith
len_span low (span ∷ spans) h (suc i) d p =
    let is = apart_first low span spans h in
    let a : low ≤ span.first = is.0 in
    let b : span.first ≤ span.last = is.1.0 in
    let one : length (counters_in (take (suc (suc i)) (span ∷ spans))) ≡ (span.last + 1 - span.first) + length (counters_in (take (suc i) spans)) = len_cons span (take (suc i) spans) in
    let more = len_span (span.last + 2) spans is.1.1 i d (omega arith) in
    omega arith

pub subset_whole : (spans : List Span) (now : List ℕ) → counters_in spans ≡ now → (other : List ℕ) (i : ℕ) → length spans ≤ i → ((n : ℕ) → any_span (take i spans) n ≡ true → has_key nat_cmp other n ≡ true) → (n : ℕ) → has_key nat_cmp now n ≡ true → has_key nat_cmp other n ≡ true
subset_whole spans now view other i end so_far n e = so_far n (ap (λ l. any_span l n) (take_all i spans end) ∙ sym (ap (λ ns. has_key nat_cmp ns n) (sym view) ∙ has_counters spans n) ∙ e)

-- ---- two lists of spans

any_parts : (spans : List Span) (i n : ℕ) → any_span spans n ≡ (any_span (take i spans) n || any_span (drop i spans) n)
any_parts spans i n = ap (λ l. any_span l n) (sym (take-append-drop i spans)) ∙ list_any-append (span_has n) (take i spans) (drop i spans)

regroup : (dy dx ty tx : Bool) → (dy || (dx || (ty || tx))) ≡ ((ty || dy) || (tx || dx))
regroup dy dx ty tx = grind arith

pub merged_both : (xs ys : List Span) (i j : ℕ) (both mid new : List ℕ) → ((n : ℕ) → has_key nat_cmp both n ≡ (any_span (take j ys) n || any_span (take i xs) n)) → ((n : ℕ) → has_key nat_cmp mid n ≡ (any_span (drop i xs) n || has_key nat_cmp both n)) → ((n : ℕ) → has_key nat_cmp new n ≡ (any_span (drop j ys) n || has_key nat_cmp mid n))
    → (n : ℕ) → has_key nat_cmp new n ≡ (any_span ys n || any_span xs n)
merged_both xs ys i j both mid new so_far first second n =
    second n ∙ ap (λ b. any_span (drop j ys) n || b) (first n ∙ ap (λ b. any_span (drop i xs) n || b) (so_far n))
    ∙ regroup (any_span (drop j ys) n) (any_span (drop i xs) n) (any_span (take j ys) n) (any_span (take i xs) n)
    ∙ (λ k. sym (any_parts ys j n) k || sym (any_parts xs i n) k)

take_rest : (spans : List Span) (i : ℕ) → take (length spans - i) (drop i spans) ≡ drop i spans
take_rest spans i = take_all (length spans - i) (drop i spans) (let left = length-drop i spans in omega arith)

pub merged_rest : (xs ys : List Span) (i j : ℕ) (both mid new : List ℕ) → ((n : ℕ) → has_key nat_cmp both n ≡ (any_span (take j ys) n || any_span (take i xs) n))
    → ((n : ℕ) → has_key nat_cmp mid n ≡ (any_span (take (length xs - i) (drop i xs)) n || has_key nat_cmp both n)) → ((n : ℕ) → has_key nat_cmp new n ≡ (any_span (take (length ys - j) (drop j ys)) n || has_key nat_cmp mid n))
    → (n : ℕ) → has_key nat_cmp new n ≡ (any_span ys n || any_span xs n)
merged_rest xs ys i j both mid new so_far first second = merged_both xs ys i j both mid new so_far
    (λ n. first n ∙ ap (λ l. any_span l n || has_key nat_cmp both n) (take_rest xs i))
    (λ n. second n ∙ ap (λ l. any_span l n || has_key nat_cmp mid n) (take_rest ys j))
