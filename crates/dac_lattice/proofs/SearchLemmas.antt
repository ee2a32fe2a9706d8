-- Binary search by key in a list of entries in key order.
use Rattle.std.specs.Prelude.{◌≡◌, ℕ, ◌<◌, false, cond, T, List, [], ◌∷◌, length, None, Some, Result, Ok, Err, refl}
use Rattle.std.proofs.Common.{inl, inr, zero, suc, sym, ap, ◌∙◌, arith, get_or, add-one}
use Rattle.std.specs.declared.cmp.Ordering.{Ordering}
use Rattle.std.specs.declared.cmp.Ordering.TheVariants.{Less, Greater}
use Rattle.std.specs.Ordering.{is_lt, is_eq, eq_by_cmp, ordering_reverse, ordering_index}
use Rattle.std.specs.Cmp.{IsTotalOrder}
use Rattle.std.specs.List.{AllWithin, All}
use Rattle.std.specs.List.Sorted.{IsSearchInRange, IsBinarySearchResult, IsNonDecreasingBy}
use Rattle.std.proofs.lemmas.Bool.{cases_lt}
use Rattle.std.proofs.lemmas.Map.Lookups.{CmpEqualImpliesEq}
use Rattle.std.proofs.lemmas.List.Sorted.{searchable_from_sorted}
use Rattle.std.specs.FinMap.{find, is_sorted}
use Rattle.dac_lattice.specs.Search.{IsInOrder, IsPlaceOf}
use Rattle.dac_lattice.specs.laws.EntryLaws.{first, second, greater, above_at, find_at}

module _ {K : Type 0} {R : K → K → Ordering} (o : IsTotalOrder R) where
  apart_less : (x k : K) → R x k ≡ Less → eq_by_cmp R k x ≡ false
  apart_less x k p = ap is_eq (greater o x k p)

  apart_greater : (x k : K) → R x k ≡ Greater → eq_by_cmp R k x ≡ false
  apart_greater x k p = ap is_eq (o.antisymm k x ∙ ap ordering_reverse p)

module _ {K X : Type 0} {R : K → K → Ordering} (o : IsTotalOrder R) (exact : CmpEqualImpliesEq R) where
  neighbours : (xs : List (K × X)) → T (is_sorted R xs) → (i : ℕ) (d : K × X) → suc i < length xs → is_lt (R (get_or xs (suc i) d).0 (get_or xs i d).0) ≡ false
  neighbours [] h i d p = absurd (omega arith)
  neighbours (x ∷ xs) h zero d p = ap is_lt (greater o x.0 (get_or xs 0 d).0 (above_at o exact x.0 xs 0 d (first _ _ h) (omega arith)))
  neighbours (x ∷ xs) h (suc i) d p = neighbours xs (second _ _ h) i d (omega arith)

  rises : (xs : List (K × X)) → T (is_sorted R xs) → (k : K) → IsNonDecreasingBy (λ e. ordering_index (R e.0 k)) xs
  rises xs h k = searchable_from_sorted o (λ e. e.0) xs k (λ i d _ p. rw add-one (neighbours xs h i d (omega arith)))

  absent : (xs : List (K × X)) (k : K) → All (λ e. eq_by_cmp R k e.0 ≡ false) xs → find R k xs ≡ None
  absent [] k h = refl
  absent (x ∷ xs) k h = ap (λ t. cond t (Some x.1) (find R k xs)) (h 0 x (omega arith)) ∙ absent xs k (λ i d p. h (suc i) d (omega arith))

  absent_at : (xs : List (K × X)) (k : K) (i : ℕ) → AllWithin (λ e. R e.0 k ≡ Less) xs 0 i → AllWithin (λ e. R e.0 k ≡ Greater) xs i (length xs) → All (λ e. eq_by_cmp R k e.0 ≡ false) xs
  absent_at xs k i low high j d p = elim (cases_lt j i) [
    | inl q ↦ apart_less o _ k (low j d (omega arith) q)
    | inr q ↦ apart_greater o _ k (high j d q p)
  ]

  -- the result of a binary search by key, in terms of `find`
  pub searched : (xs : List (K × X)) (k : K) (r : Result ℕ ℕ) → IsInOrder R xs → IsSearchInRange r (length xs) → IsBinarySearchResult (λ e. R e.0 k) xs r → IsPlaceOf R xs k r
  searched xs k (Ok i) h in_range at = (in_range, λ d. ap (λ q. find R q xs) (sym (exact _ k (at d))) ∙ find_at o exact xs i d h in_range)
  searched xs k (Err i) h in_range parted = let parts = parted (rises xs h k) in absent xs k (absent_at xs k i parts.0 parts.1)
