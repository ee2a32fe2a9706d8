-- Searching a sorted list of keys, and inserting into it or removing from it in place.
use Rattle.std.proofs.Common.{◌≡◌, ℕ, zero, suc, ◌<◌, ◌≤◌, Bool, true, false, not, ◌||◌, ◌&&◌, List, [], ◌∷◌, length, get_or, take, drop, Result, Ok, Err, is_ok, inl, inr, refl, sym, ap, subst, ◌∙◌, arith, add-one, take-append-drop}
use Rattle.std.specs.declared.cmp.Ordering.{Ordering}
use Rattle.std.specs.declared.cmp.Ordering.TheVariants.{Less, Equal, Greater}
use Rattle.std.specs.Ordering.{is_eq, eq_by_cmp, ordering_index}
use Rattle.std.specs.Cmp.{IsTotalOrder}
use Rattle.std.specs.List.{AllWithin, insert, remove}
use Rattle.std.specs.List.Sorted.{IsSearchInRange, IsBinarySearchResult, IsNonDecreasingBy}
use Rattle.std.proofs.lemmas.Bool.{cases_lt, and_parts, and_from}
use Rattle.std.proofs.lemmas.Cmp.{tied_back}
use Rattle.std.proofs.lemmas.List.Folds.{list_any-append, list_any_none}
use Rattle.std.proofs.lemmas.List.Sorted.{searchable_from_sorted}
use Rattle.std.proofs.lemmas.Map.Lookups.{CmpEqualImpliesEq}
use Rattle.dac_origins.specs.laws.InOrder.{tie, or_swap, below_absent}
use Rattle.dac_origins.specs.laws.KeyLaws.{has_at, greater, smaller, below_at, neighbours, rising_insert}
use Rattle.dac_origins.specs.Keys.{is_below_all, IsRising, has_key}

or_same : (a b : Bool) → (a ≡ true → b ≡ true) → b ≡ (a || b)
or_same a b h = grind arith

module _ {K : Type 0} {R : K → K → Ordering} (o : IsTotalOrder R) where
  rises : (ks : List K) → IsRising R ks → (k : K) → IsNonDecreasingBy (λ y. ordering_index (R y k)) ks
  rises ks h k = searchable_from_sorted o (λ e. e) ks k (λ i d _ p. rw add-one (neighbours o ks h i d (omega arith)))

  absent_at : (ks : List K) (k : K) (i : ℕ) → AllWithin (λ y. R y k ≡ Less) ks 0 i → AllWithin (λ y. R y k ≡ Greater) ks i (length ks) → has_key R ks k ≡ false
  absent_at ks k i low high = list_any_none (eq_by_cmp R k) ks (λ j d p. elim (cases_lt j i) [
    | inl q ↦ ap is_eq (greater o _ k (low j d (omega arith) q))
    | inr q ↦ ap is_eq (smaller o _ k (high j d q p))
  ])

  -- a search returns Ok exactly if the list has the key
  pub found : (ks : List K) (k : K) (r : Result ℕ ℕ) → IsRising R ks → IsSearchInRange r (length ks) → IsBinarySearchResult (λ y. R y k) ks r → is_ok r ≡ has_key R ks k
  found ks k (Ok i) h in_range at = sym (has_at o ks k i k in_range (ap is_eq (tied_back o _ k (at k))))
  found ks k (Err i) h in_range parted = let parts = parted (rises ks h k) in sym (absent_at ks k i parts.0 parts.1)

  -- an insert adds exactly its key
  pub has_key-insert : (ks : List K) (i : ℕ) (k q : K) → has_key R (insert ks i k) q ≡ (eq_by_cmp R q k || has_key R ks q)
  has_key-insert ks i k q =
      list_any-append (eq_by_cmp R q) (take i ks) (k ∷ drop i ks)
      ∙ or_swap (has_key R (take i ks) q) (eq_by_cmp R q k) (has_key R (drop i ks) q)
      ∙ ap (λ b. eq_by_cmp R q k || b) (sym (list_any-append (eq_by_cmp R q) (take i ks) (drop i ks)) ∙ ap (λ l. has_key R l q) (take-append-drop i ks))

  pub rising_searched : (ks : List K) (i : ℕ) (k : K) → IsRising R ks → i ≤ length ks → IsBinarySearchResult (λ y. R y k) ks (Err i) → IsRising R (insert ks i k)
  rising_searched ks i k h p parted = let parts = parted (rises ks h k) in rising_insert o ks i k h p parts.0 parts.1

  -- a key in the list adds nothing when inserted again
  pub has_key-again : CmpEqualImpliesEq R → (ks : List K) (k : K) → has_key R ks k ≡ true → (q : K) → has_key R ks q ≡ (eq_by_cmp R q k || has_key R ks q)
  has_key-again exact ks k here q = or_same (eq_by_cmp R q k) (has_key R ks q) (λ e. subst (λ q. has_key R ks q ≡ true) (sym (exact q k (tie _ e))) here)

  -- ---- removal

  below_remove : (x : K) (ks : List K) (i : ℕ) → is_below_all R x ks ≡ true → is_below_all R x (remove ks i) ≡ true
  below_remove x [] zero h = refl
  below_remove x [] (suc i) h = refl
  below_remove x (k ∷ ks) zero h = (and_parts _ _ h).1
  below_remove x (k ∷ ks) (suc i) h = and_from _ _ (and_parts _ _ h).0 (below_remove x ks i (and_parts _ _ h).1)

  -- a removal keeps the list sorted
  pub rising_remove : (ks : List K) (i : ℕ) → IsRising R ks → IsRising R (remove ks i)
  rising_remove [] zero h = refl
  rising_remove [] (suc i) h = refl
  rising_remove (k ∷ ks) zero h = (and_parts _ _ h).1
  rising_remove (k ∷ ks) (suc i) h = and_from _ _ (below_remove k ks i (and_parts _ _ h).0) (rising_remove ks i (and_parts _ _ h).1)

  module _ (exact : CmpEqualImpliesEq R) where
    -- a: q is the removed key, b: q is among the others
    first_less : (a b : Bool) → (a ≡ true → b ≡ false) → b ≡ (not a && (a || b))
    first_less a b h = grind arith

    later_less : (a x b : Bool) → (a ≡ true → x ≡ false) → (x || (not a && b)) ≡ (not a && (x || b))
    later_less a x b h = grind arith

    -- a key less than another differs from it
    not_tied : (q k x : K) → R x k ≡ Less → eq_by_cmp R q k ≡ true → eq_by_cmp R q x ≡ false
    not_tied q k x p e = ap (λ y. eq_by_cmp R y x) (exact q k (tie _ e)) ∙ ap is_eq (greater o x k p)

    -- a removal removes exactly its key
    pub has_key-remove : (ks : List K) (i : ℕ) (k q : K) → IsRising R ks → i < length ks → R (get_or ks i k) k ≡ Equal → has_key R (remove ks i) q ≡ (not (eq_by_cmp R q k) && has_key R ks q)
    has_key-remove [] i k q h p t = absurd (omega arith)
    has_key-remove (x ∷ ks) zero k q h p t =
        let is : x ≡ k = exact x k t in
        first_less (eq_by_cmp R q k) (has_key R ks q) (λ e. ap (has_key R ks) (exact q k (tie _ e) ∙ sym is) ∙ below_absent o x ks (and_parts _ _ h).0)
        ∙ ap (λ y. not (eq_by_cmp R q k) && (eq_by_cmp R q y || has_key R ks q)) (sym is)
    has_key-remove (x ∷ ks) (suc i) k q h p t =
        let before : R x k ≡ Less = ap (R x) (sym (exact (get_or ks i k) k t)) ∙ below_at o x ks i k (and_parts _ _ h).0 (omega arith) in
        ap (λ b. eq_by_cmp R q x || b) (has_key-remove ks i k q (and_parts _ _ h).1 (omega arith) t)
        ∙ later_less (eq_by_cmp R q k) (eq_by_cmp R q x) (has_key R ks q) (not_tied q k x before)

    -- removing a key that isn't in the list changes nothing
    pub has_key-missing : (ks : List K) (k : K) → has_key R ks k ≡ false → (q : K) → has_key R ks q ≡ (not (eq_by_cmp R q k) && has_key R ks q)
    has_key-missing ks k none q = absent_less (eq_by_cmp R q k) (has_key R ks q) (λ e. ap (has_key R ks) (exact q k (tie _ e)) ∙ none)
      where
        absent_less : (a b : Bool) → (a ≡ true → b ≡ false) → b ≡ (not a && b)
        absent_less true b h = h refl
        absent_less false b h = refl
