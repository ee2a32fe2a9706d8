-- A list of entries in key order, after an entry is put at the result of a search.
use Rattle.std.specs.Prelude.{◌≡◌, ℕ, ◌<◌, ◌≤◌, false, cond, List, [], ◌∷◌, length, slice_set, None, Some, Ok, Err, refl}
use Rattle.std.proofs.Common.{zero, suc, sym, ap, subst, ◌∙◌, arith, get_or, add-one}
use Rattle.std.specs.declared.cmp.Ordering.{Ordering}
use Rattle.std.specs.declared.cmp.Ordering.TheVariants.{Less, Equal, Greater}
use Rattle.std.specs.Ordering.{is_lt, is_eq, ordering_reverse, ordering_index}
use Rattle.std.specs.Cmp.{IsTotalOrder}
use Rattle.std.specs.List.{AllWithin, insert}
use Rattle.std.specs.List.Sorted.{IsBinarySearchResult, IsNonDecreasingBy}
use Rattle.std.proofs.lemmas.Cmp.{tied_back}
use Rattle.std.proofs.lemmas.Map.Lookups.{CmpEqualImpliesEq}
use Rattle.std.proofs.lemmas.List.Sorted.{searchable_from_sorted}
use Rattle.std.specs.FinMap.{find, put}
use Rattle.std.specs.FinMap.Entries.{by_order, is_sorted-put}
use Rattle.dac_lattice.specs.Search.{IsInOrder}
use Rattle.dac_lattice.specs.laws.EntryLaws.{first, second, greater, above_at}

lesser : {K : Type 0} {R : K → K → Ordering} → IsTotalOrder R → (x k : K) → R x k ≡ Greater → R k x ≡ Less
lesser o x k p = o.antisymm k x ∙ ap ordering_reverse p

module _ {K X : Type 0} {R : K → K → Ordering} (o : IsTotalOrder R) where
  -- a key between those below it and those above it has no value
  missing : (es : List (K × X)) (i : ℕ) (k : K) → AllWithin (λ e. R e.0 k ≡ Less) es 0 i → AllWithin (λ e. R e.0 k ≡ Greater) es i (length es) → find R k es ≡ None
  missing [] i k low high = refl
  missing (e ∷ es) zero k low high =
      ap (λ r. cond (is_eq r) (Some e.1) (find R k es)) (lesser o e.0 k (high 0 e (omega arith) (omega arith)))
      ∙ missing es zero k (λ j d p q. absurd (omega arith)) (λ j d p q. high (suc j) d (omega arith) (omega arith))
  missing (e ∷ es) (suc i) k low high =
      ap (λ r. cond (is_eq r) (Some e.1) (find R k es)) (greater o e.0 k (low 0 e (omega arith) (omega arith)))
      ∙ missing es i k (λ j d p q. low (suc j) d (omega arith) (omega arith)) (λ j d p q. high (suc j) d (omega arith) (omega arith))

  -- putting an entry there inserts it
  between : (es : List (K × X)) (i : ℕ) (k : K) (v : X) → i ≤ length es → AllWithin (λ e. R e.0 k ≡ Less) es 0 i → AllWithin (λ e. R e.0 k ≡ Greater) es i (length es) → insert es i (k, v) ≡ put R k v es
  between [] zero k v p low high = refl
  between [] (suc i) k v p low high = absurd (omega arith)
  between (e ∷ es) zero k v p low high =
      sym (ap (λ r. by_order r ((k, v) ∷ e ∷ es) ((e.0, v) ∷ es) (e ∷ put R k v es)) (lesser o e.0 k (high 0 e (omega arith) (omega arith))))
  between (e ∷ es) (suc i) k v p low high =
      ap (λ l. e ∷ l) (between es i k v (omega arith) (λ j d p q. low (suc j) d (omega arith) (omega arith)) (λ j d p q. high (suc j) d (omega arith) (omega arith)))
      ∙ sym (ap (λ r. by_order r ((k, v) ∷ e ∷ es) ((e.0, v) ∷ es) (e ∷ put R k v es)) (greater o e.0 k (low 0 e (omega arith) (omega arith))))

module _ {K X : Type 0} {R : K → K → Ordering} (o : IsTotalOrder R) (exact : CmpEqualImpliesEq R) where
  neighbours : (es : List (K × X)) → IsInOrder R es → (i : ℕ) (d : K × X) → suc i < length es → is_lt (R (get_or es (suc i) d).0 (get_or es i d).0) ≡ false
  neighbours [] h i d p = absurd (omega arith)
  neighbours (e ∷ es) h zero d p = ap is_lt (greater o e.0 (get_or es 0 d).0 (above_at o exact e.0 es 0 d (first _ _ h) (omega arith)))
  neighbours (e ∷ es) h (suc i) d p = neighbours es (second _ _ h) i d (omega arith)

  rises : (es : List (K × X)) → IsInOrder R es → (k : K) → IsNonDecreasingBy (λ e. ordering_index (R e.0 k)) es
  rises es h k = searchable_from_sorted o (λ e. e.0) es k (λ i d _ p. rw add-one (neighbours es h i d (omega arith)))

  -- a key that a search doesn't find has no value
  pub absent : (es : List (K × X)) (i : ℕ) (k : K) → IsInOrder R es → IsBinarySearchResult (λ e. R e.0 k) es (Err i) → find R k es ≡ None
  absent es i k h parted = let parts = parted (rises es h k) in missing o es i k parts.0 parts.1

  pub put_between : (es : List (K × X)) (i : ℕ) (k : K) (v : X) → IsInOrder R es → i ≤ length es → IsBinarySearchResult (λ e. R e.0 k) es (Err i) → insert es i (k, v) ≡ put R k v es
  put_between es i k v h p parted = let parts = parted (rises es h k) in between o es i k v p parts.0 parts.1

  -- at a key that a search finds, putting an entry replaces the old one
  there : (es : List (K × X)) (i : ℕ) (k : K) (v : X) → IsInOrder R es → i < length es → R (get_or es i (k, v)).0 k ≡ Equal → slice_set es i (k, v) ≡ put R k v es
  there [] i k v h p t = absurd (omega arith)
  there (e ∷ es) zero k v h p t =
      ap (λ q. (q, v) ∷ es) (sym (exact e.0 k t))
      ∙ sym (ap (λ r. by_order r ((k, v) ∷ e ∷ es) ((e.0, v) ∷ es) (e ∷ put R k v es)) (tied_back o e.0 k t))
  there (e ∷ es) (suc i) k v h p t =
      let before : R e.0 k ≡ Less = ap (R e.0) (sym (exact _ k t)) ∙ above_at o exact e.0 es i (k, v) (first _ _ h) (omega arith) in
      ap (λ l. e ∷ l) (there es i k v (second _ _ h) (omega arith) t)
      ∙ sym (ap (λ r. by_order r ((k, v) ∷ e ∷ es) ((e.0, v) ∷ es) (e ∷ put R k v es)) (greater o e.0 k before))

  pub put_there : (es : List (K × X)) (i : ℕ) (k : K) (v : X) → IsInOrder R es → i < length es → IsBinarySearchResult (λ e. R e.0 k) es (Ok i) → slice_set es i (k, v) ≡ put R k v es
  put_there es i k v h p at = there es i k v h p (at (k, v))

  -- the list stays in order
  pub in_order_put : (es new : List (K × X)) (k : K) (v : X) → IsInOrder R es → new ≡ put R k v es → IsInOrder R new
  in_order_put es new k v h is = subst (IsInOrder R) (sym is) (is_sorted-put R o k v es h)
