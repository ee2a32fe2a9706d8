-- Lists of entries in key order without the entry at a key.
use Rattle.std.specs.Prelude.{◌≡◌, ℕ, ◌<◌, true, false, cond, not, T, List, [], ◌∷◌, length, None, Some, Ok, refl}
use Rattle.std.proofs.Common.{zero, suc, sym, ap, subst, ◌∙◌, arith, get_or}
use Rattle.std.specs.declared.cmp.Ordering.{Ordering}
use Rattle.std.specs.declared.cmp.Ordering.TheVariants.{Less, Equal, Greater}
use Rattle.std.specs.Ordering.{is_eq, eq_by_cmp, ordering_reverse}
use Rattle.std.specs.Cmp.{IsTotalOrder}
use Rattle.std.specs.List.{remove}
use Rattle.std.specs.List.Sorted.{IsBinarySearchResult}
use Rattle.std.specs.FinMap.{find}
use Rattle.std.specs.FinMap.Entries.{below_all, find-where_key}
use Rattle.std.proofs.lemmas.Cmp.{tied_back}
use Rattle.std.proofs.lemmas.Map.Lookups.{CmpEqualImpliesEq}
use Rattle.dac_lattice.specs.Search.{IsInOrder, without}
use Rattle.dac_lattice.specs.laws.EntryLaws.{first, second, less, greater, above_at}

module _ {K X : Type 0} (R : K → K → Ordering) where
  -- an entry at another key stays
  pub kept : (e : K × X) (es : List (K × X)) (k : K) → eq_by_cmp R k e.0 ≡ false → without R k (e ∷ es) ≡ e ∷ without R k es
  kept e es k p = ap (λ b. cond (not b) (e ∷ without R k es) (without R k es)) p

  -- the entry at the key goes
  gone : (e : K × X) (es : List (K × X)) (k : K) → eq_by_cmp R k e.0 ≡ true → without R k (e ∷ es) ≡ without R k es
  gone e es k p = ap (λ b. cond (not b) (e ∷ without R k es) (without R k es)) p

  -- entries above the key stay
  pub above_stay : (es : List (K × X)) (k : K) → T (below_all R k es) → without R k es ≡ es
  above_stay [] k h = refl
  above_stay (e ∷ es) k h = kept e es k (ap is_eq (less _ (first _ _ h))) ∙ ap (λ l. e ∷ l) (above_stay es k (second _ _ h))

  -- if the key has no entry, all stay
  pub none_there : (es : List (K × X)) (k : K) → find R k es ≡ None → without R k es ≡ es
  none_there [] k h = refl
  none_there (e ∷ es) k h = elim (eq_by_cmp R k e.0) as (λ t. eq_by_cmp R k e.0 ≡ t → cond t (Some e.1) (find R k es) ≡ None → without R k (e ∷ es) ≡ e ∷ es) [
    | true ↦ λ t is. cc
    | false ↦ λ t is. kept e es k t ∙ ap (λ l. e ∷ l) (none_there es k is)
  ] refl h

  module _ (o : IsTotalOrder R) (exact : CmpEqualImpliesEq R) where
    there : (es : List (K × X)) (i : ℕ) (k : K) (d : K × X) → IsInOrder R es → i < length es → R (get_or es i d).0 k ≡ Equal → remove es i ≡ without R k es
    there [] i k d h p t = absurd (omega arith)
    there (e ∷ es) zero k d h p t =
        sym (gone e es k (ap is_eq (tied_back o e.0 k t)) ∙ above_stay es k (subst (λ x. T (below_all R x es)) (exact e.0 k t) (first _ _ h)))
    there (e ∷ es) (suc i) k d h p t =
        let before : R e.0 k ≡ Less = ap (R e.0) (sym (exact _ k t)) ∙ above_at o exact e.0 es i d (first _ _ h) (omega arith) in
        ap (λ l. e ∷ l) (there es i k d (second _ _ h) (omega arith) t)
        ∙ sym (kept e es k (ap is_eq (greater o e.0 k before)))

    -- removing the entry that a search finds
    pub removed_there : (es : List (K × X)) (i : ℕ) (k : K) (d : K × X) → IsInOrder R es → i < length es → IsBinarySearchResult (λ e. R e.0 k) es (Ok i) → remove es i ≡ without R k es
    removed_there es i k d h p at = there es i k d h p (at d)

  -- the values then
  pub find_without : IsTotalOrder R → (q k : K) (es : List (K × X)) → find R q (without R k es) ≡ cond (eq_by_cmp R q k) None (find R q es)
  find_without o q k es =
      find-where_key R (λ x. not (eq_by_cmp R k x)) q (λ x t. ap (λ r. not (is_eq r)) (ends x t)) es
      ∙ ap (λ b. cond (not b) (find R q es) None) back
      ∙ elim (eq_by_cmp R q k) as (λ b. cond (not b) (find R q es) None ≡ cond b None (find R q es)) [ true ↦ refl | false ↦ refl ]
    where
      back : eq_by_cmp R k q ≡ eq_by_cmp R q k
      back = ap is_eq (o.antisymm k q) ∙ elim (R q k) as (λ r. is_eq (ordering_reverse r) ≡ is_eq r) [ Less ↦ refl | Equal ↦ refl | Greater ↦ refl ]

      ends : (x : K) → R q x ≡ Equal → R k x ≡ R k q
      ends x t = o.antisymm k x ∙ ap ordering_reverse (sym (o.congr q x k t)) ∙ sym (o.antisymm k q)
