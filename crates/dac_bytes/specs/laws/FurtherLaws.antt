-- Further counters: the order in which they are read, and the counters of a row.
use Rattle.std.specs.Prelude.{◌≡◌, ℕ, ◌<◌, true, List, [], ◌∷◌, refl}
use Rattle.std.specs.Ordering.{nat_cmp, eq_by_cmp}
use Rattle.std.proofs.Common.{inl, inr, sym, subst, arith}
use Rattle.std.proofs.lemmas.Bool.{and_parts, and_from, or_cases, or_left, or_right, false≢true}
use Rattle.dac_origins.specs.Keys.{is_below_all, is_rising, IsRising, has_key}
use Rattle.dac_dots.specs.laws.CounterLaws.{less, is_less, same, is_same, below_more}
use Rattle.dac_bytes.specs.Items.{Chain}
use Rattle.dac_bytes.specs.Ranges.{IsFurther}

-- the facts about further counters that were read in order
pub record AreFurther (low : ℕ) (ns : List ℕ) : Type 0 where
  pub above : is_below_all nat_cmp low ns ≡ true
  pub rising : IsRising nat_cmp ns
  pub each : (n : ℕ) → has_key nat_cmp ns n ≡ true → IsFurther low n

pub further_of_chain : (low : ℕ) (ns : List ℕ) → Chain IsFurther (λ n. n) low ns → AreFurther low ns
further_of_chain low [] c = record { above = refl; rising = refl; each = λ n e. absurd (false≢true e) }
further_of_chain low (x ∷ ns) c =
    let rest = further_of_chain x ns c.1 in
    let first : IsFurther low x = c.0 in
    record {
      above = and_from _ _ (is_less low x first.above) (below_more low x ns first.above rest.above);
      rising = and_from _ _ rest.above rest.rising;
      each = λ n e. elim (or_cases (eq_by_cmp nat_cmp n x) (has_key nat_cmp ns n) e) [
        | inl at ↦ subst (IsFurther low) (sym (same n x at)) first
        | inr past ↦ let more = rest.each n past in record { first = more.first; last = more.last; above = let p = more.above in let q = first.above in omega arith }
      ];
    }

-- a counter of a list is greater than a lower bound of the list
beyond : (x : ℕ) (ns : List ℕ) (n : ℕ) → is_below_all nat_cmp x ns ≡ true → has_key nat_cmp ns n ≡ true → x < n
beyond x [] n h e = absurd (false≢true e)
beyond x (y ∷ ns) n h e = elim (or_cases (eq_by_cmp nat_cmp n y) (has_key nat_cmp ns n) e) [
  | inl at ↦ let is = same n y at in let p = less x y (and_parts _ _ h).0 in omega arith
  | inr past ↦ beyond x ns n (and_parts _ _ h).1 past
]

pub chain_of_further : (low : ℕ) (ns : List ℕ) → IsRising nat_cmp ns → ((n : ℕ) → has_key nat_cmp ns n ≡ true → IsFurther low n) → Chain IsFurther (λ n. n) low ns
chain_of_further low [] rising each = tt
chain_of_further low (x ∷ ns) rising each =
    let parts = and_parts (is_below_all nat_cmp x ns) (is_rising nat_cmp ns) rising in (
      each x (or_left _ _ (is_same x x refl)),
      chain_of_further x ns parts.1 (λ n e.
          let there = each n (or_right _ _ e) in
          record { first = there.first; last = there.last; above = beyond x ns n parts.0 e }),
    )
