-- Strictly sorted lists, one element after another.
use Rattle.std.proofs.Common.{◌≡◌, ℕ, ◌+◌, ◌<◌, ◌≤◌, Bool, true, false, ◌&&◌, List, ◌∷◌, length, get_or, drop, sym, ap, ◌∙◌, arith, length-drop, [], refl}
use Rattle.std.specs.declared.cmp.Ordering.{Ordering}
use Rattle.std.specs.Ordering.{is_lt}
use Rattle.std.specs.Cmp.{IsTotalOrder}
use Rattle.std.proofs.lemmas.Bool.{and_left, false≢true}
use Rattle.std.proofs.lemmas.List.{drop_more}
use Rattle.dac_origins.specs.Keys.{is_below_all, is_rising}
use Rattle.dac_origins.specs.laws.InOrder.{less, below_more}

-- a conjunct that follows from the next one can be dropped
and_follows : (x y z : Bool) → (y ≡ true → x ≡ true) → (x && (y && z)) ≡ (y && z)
and_follows true y z h = refl
and_follows false true z h = absurd (false≢true (h refl))
and_follows false false z h = refl

module _ {K : Type 0} {R : K → K → Ordering} (o : IsTotalOrder R) where
  -- a first element below the second one doesn't change whether the list is sorted
  rising_next : (x y : K) (ks : List K) → is_lt (R x y) ≡ true → is_rising R (x ∷ y ∷ ks) ≡ is_rising R (y ∷ ks)
  rising_next x y ks p =
      ap (λ b. (b && is_below_all R x ks) && (is_below_all R y ks && is_rising R ks)) p
      ∙ and_follows (is_below_all R x ks) (is_below_all R y ks) (is_rising R ks) (below_more o x y ks (less _ p))

  two_at : (ks : List K) (i j : ℕ) (e : K) → j ≡ i + 1 → j < length ks → drop i ks ≡ get_or ks i e ∷ get_or ks j e ∷ drop (j + 1) ks
  two_at ks i j e is p = drop_more ks i e (omega arith) ∙ ap (λ n. get_or ks i e ∷ drop n ks) (sym is) ∙ ap (λ l. get_or ks i e ∷ l) (drop_more ks j e p)

  -- if an element is below the next, the list is sorted from its index on exactly if it is from the next index on
  pub rising_more : (ks : List K) (i j k : ℕ) (e : K) → j ≡ i + 1 → k ≡ j → j < length ks → is_lt (R (get_or ks i e) (get_or ks j e)) ≡ true → is_rising R (drop i ks) ≡ is_rising R (drop k ks)
  rising_more ks i j k e is same p below =
      ap (is_rising R) (two_at ks i j e is p)
      ∙ rising_next (get_or ks i e) (get_or ks j e) (drop (j + 1) ks) below
      ∙ ap (is_rising R) (sym (drop_more ks j e p)) ∙ ap (λ n. is_rising R (drop n ks)) (sym same)

  -- a list isn't sorted from an element on that isn't below the next
  pub not_rising : (ks : List K) (i j : ℕ) (e : K) → j ≡ i + 1 → j < length ks → is_lt (R (get_or ks i e) (get_or ks j e)) ≡ false → is_rising R (drop i ks) ≡ false
  not_rising ks i j e is p not_below = ap (is_rising R) (two_at ks i j e is p) ∙ and_left _ _ (and_left _ _ not_below)

  one_rises : (ks : List K) → length ks ≤ 1 → is_rising R ks ≡ true
  one_rises [] p = refl
  one_rises (k ∷ []) p = refl
  one_rises (k ∷ l ∷ ks) p = absurd (omega arith)

  -- a list is sorted from its last element on
  pub rising_last : (ks : List K) (i : ℕ) → length ks ≤ i + 1 → is_rising R (drop i ks) ≡ true
  rising_last ks i p = one_rises (drop i ks) (omega (arith, length-drop i ks))
