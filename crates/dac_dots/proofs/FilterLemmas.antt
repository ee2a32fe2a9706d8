-- Filling a filter with the dots of spans.
use Rattle.std.proofs.Common.{◌≡◌, ◌∙◌, ℕ, ◌+◌, ◌<◌, ◌≤◌, inl, inr, Bool, true, List, length, take, get_or, sym, ap, subst, arith, zero, suc, false, min, nat_eq, bit_and, bit_or, set, refl, ◌^◌, ◌/◌, ◌%◌, ◌*◌}
use Rattle.std.specs.Ordering.{nat_cmp}
use Rattle.std.specs.List.{list_any}
use Rattle.std.specs.Int.{bit_at}
use Rattle.std.proofs.lemmas.Nat.Bits.{bit_at_and, bit_at-lt, bit_at-zero, bit_at_set_same, bit_at_set_other}
use Rattle.std.proofs.lemmas.Bool.{or_cases, eqb-true, eq-eqb, false≢true}
use Rattle.std.proofs.lemmas.List.{take_all, get_or-set_same, get_or-set_other}
use Rattle.std.proofs.lemmas.Grind.{get_or-set_at}
use mir.Syntax.{w64}
use Rattle.std.proofs.lemmas.List.Folds.{list_any_more}
use Rattle.dac_origins.specs.Keys.{has_key}
use Rattle.dac_origins.specs.declared.dot.Dot.{Dot}
use Rattle.dac_dots.specs.DotFilters.{slot_of, may_have, AreApart}
use Rattle.dac_dots.specs.Spans.{any_span, counters_in}
use Rattle.dac_dots.specs.declared.spans.Span.{Span}
use Rattle.dac_dots.proofs.SpanLemmas.{has_counters}

-- each slot is below 1024
slot_there : (q : Dot) → slot_of q < 1024
slot_there q = omega arith

pub word_there : (q : Dot) → slot_of q / 64 < 16
word_there q = let there = slot_there q in omega (arith, there)

pub bit_there : (q : Dot) → slot_of q % 64 < 64
bit_there q = omega arith

-- a word with one more bit set
abbrev with_bit : ℕ → ℕ → ℕ
with_bit n k = bit_or n (1 * 2 ^ k % 2 ^ 64)

with_more : (n k i : ℕ) → k < 64 → bit_at n i ≡ 1 → bit_at (with_bit n k) i ≡ 1
with_more n k i p e = elim (nat_eq i k) as (λ t. nat_eq i k ≡ t → bit_at (with_bit n k) i ≡ 1) [
  | true ↦ λ t. ap (bit_at (with_bit n k)) (eqb-true i k t) ∙ bit_at_set_same w64 n k p
  | false ↦ λ t. bit_at_set_other w64 n k p i (λ same. false≢true (sym t ∙ eq-eqb i k same)) ∙ e
] refl

pub put_own : (slots : List ℕ) (q : Dot) (n : ℕ) → length slots ≡ 16 → may_have (set slots (slot_of q / 64) (with_bit n (slot_of q % 64))) q ≡ true
put_own slots q n long =
    ap (λ m. nat_eq (bit_at m (slot_of q % 64)) 1) (get_or-set_same slots (slot_of q / 64) (with_bit n (slot_of q % 64)) 0 (subst (λ l. slot_of q / 64 < l) (sym long) (word_there q)))
    ∙ ap (λ m. nat_eq m 1) (bit_at_set_same w64 n (slot_of q % 64) (bit_there q))

pub put_more : (slots : List ℕ) (q p : Dot) (n : ℕ) → length slots ≡ 16 → n ≡ get_or slots (slot_of q / 64) 0 → may_have slots p ≡ true → may_have (set slots (slot_of q / 64) (with_bit n (slot_of q % 64))) p ≡ true
put_more slots q p n long is e =
    let i = slot_of q / 64 in
    let j = slot_of p / 64 in
    let k = slot_of p % 64 in
    let made = with_bit n (slot_of q % 64) in
    elim (nat_eq j i) as (λ t. nat_eq j i ≡ t → nat_eq (bit_at (get_or (set slots i made) j 0) k) 1 ≡ true) [
      | true ↦ λ t.
          let at = eqb-true j i t in
          let had : bit_at n k ≡ 1 = ap (λ m. bit_at m k) (is ∙ ap (λ w. get_or slots w 0) (sym at)) ∙ eqb-true _ _ e in
          ap (λ m. nat_eq (bit_at m k) 1) (get_or-set_at slots i j made 0 at (subst (λ l. i < l) (sym long) (word_there q)))
          ∙ ap (λ m. nat_eq m 1) (with_more n (slot_of q % 64) k (bit_there q) had)
      | false ↦ λ t. ap (λ m. nat_eq (bit_at m k) 1) (get_or-set_other slots i j made 0 (λ same. false≢true (sym t ∙ eq-eqb j i same))) ∙ e
    ] refl

-- filters are apart if no word has a bit set in both
pub apart_from : (a b : List ℕ) → ((j : ℕ) → j < 16 → bit_and (get_or a j 0) (get_or b j 0) ≡ 0) → AreApart a b
apart_from a b none q e =
    let n = get_or a (slot_of q / 64) 0 in
    let m = get_or b (slot_of q / 64) 0 in
    let i = slot_of q % 64 in
    let both : min (bit_at n i) (bit_at m i) ≡ 0 = sym (bit_at_and n m i) ∙ ap (λ k. bit_at k i) (none (slot_of q / 64) (word_there q)) ∙ bit_at-zero i in
    lowest (bit_at m i) (bit_at-lt m i) (ap (λ k. min k (bit_at m i)) (sym (eqb-true _ _ e)) ∙ both)
  where
    lowest : (x : ℕ) → x < 2 → min 1 x ≡ 0 → nat_eq x 1 ≡ false
    lowest zero p e = refl
    lowest (suc zero) p e = cc
    lowest (suc (suc x)) p e = absurd (omega (arith, p))

-- a consequence of "some of the first i satisfies p" and of "the next one does" follows for the first i + 1
pub one_further : {T : Type 0} (p : T → Bool) (xs : List T) (i : ℕ) (d : T) (Q : Type 0) → i < length xs → (list_any p (take i xs) ≡ true → Q) → (p (get_or xs i d) ≡ true → Q) → list_any p (take (i + 1) xs) ≡ true → Q
one_further p xs i d Q at so_far one e = elim (or_cases _ _ (sym (list_any_more p xs i d at) ∙ e)) [ inl before ↦ so_far before | inr here ↦ one here ]

-- each counter of the set is in one of its spans
pub in_spans : (spans : List Span) (now : List ℕ) → counters_in spans ≡ now → (i : ℕ) → length spans ≤ i → (n : ℕ) → has_key nat_cmp now n ≡ true → any_span (take i spans) n ≡ true
in_spans spans now view i end n e = ap (λ (l : List Span). any_span l n) (take_all i spans end) ∙ sym (has_counters spans n) ∙ ap (λ (ns : List ℕ). has_key nat_cmp ns n) view ∙ e
