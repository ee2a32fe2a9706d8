-- Laws of the definitions in `Entries`.
use Rattle.std.specs.Prelude.{◌≡◌, true, false, cond, T, List, [], ◌∷◌, Option, None, Some, refl}
use Rattle.std.proofs.Common.{sym, ap, subst, ◌∙◌, arith}
use Rattle.std.specs.declared.cmp.Ordering.{Ordering}
use Rattle.std.specs.declared.cmp.Ordering.TheVariants.{Less, Equal, Greater}
use Rattle.std.specs.Ordering.{is_lt, is_eq, eq_by_cmp, ordering_reverse}
use Rattle.std.specs.Cmp.{IsTotalOrder}
use Rattle.std.proofs.lemmas.Map.Lookups.{CmpEqualImpliesEq}
use Rattle.std.specs.FinMap.{find, is_sorted}
use Rattle.std.specs.FinMap.Entries.{below_all, by_order}
use Rattle.std.proofs.Math.Facts.{yes_and}
use Rattle.dac_lattice.specs.Entries.{Combine, keep, merge_right, merge_entry, merge_entries}
use Rattle.dac_lattice.specs.laws.EntryLaws.{first, second, less}

equal : (r : Ordering) → T (is_eq r) → r ≡ Equal
equal r p = grind arith

module _ {K X : Type 0} {R : K → K → Ordering} (o : IsTotalOrder R) (exact : CmpEqualImpliesEq R) where
  pub below_more : (x y : K) (es : List (K × X)) → R x y ≡ Less → T (below_all R y es) → T (below_all R x es)
  below_more x y [] p h = tt
  below_more x y (e ∷ es) p h = yes_and _ _ (subst (λ r. T (is_lt r)) (sym (o.trans x y e.0 p (less _ (first _ _ h)))) tt) (below_more x y es p (second _ _ h))

  -- a key less than all others isn't among them
  pub find_below : (q : K) (es : List (K × X)) → T (below_all R q es) → find R q es ≡ None
  find_below q [] h = refl
  find_below q (e ∷ es) h = ap (λ r. cond (is_eq r) (Some e.1) (find R q es)) (less _ (first _ _ h)) ∙ find_below q es (second _ _ h)

  below_keep : (x k : K) (v : Option X) (es : List (K × X)) → R x k ≡ Less → T (below_all R x es) → T (below_all R x (keep k v es))
  below_keep x k v es p h = grind (arith, yes_and)

  sorted_keep : (k : K) (v : Option X) (es : List (K × X)) → T (below_all R k es) → T (is_sorted R es) → T (is_sorted R (keep k v es))
  sorted_keep k v es b h = grind (arith, yes_and)

  find_keep : (q k : K) (v : Option X) (es : List (K × X)) → T (below_all R k es) → find R q (keep k v es) ≡ cond (eq_by_cmp R q k) v (find R q es)
  find_keep q k (Some v) es b = refl
  find_keep q k None es b = elim (eq_by_cmp R q k) as (λ t. eq_by_cmp R q k ≡ t → find R q es ≡ cond t None (find R q es)) [
    | true ↦ λ t. ap (λ q. find R q es) (exact q k (equal _ (subst T (sym t) tt))) ∙ find_below k es b
    | false ↦ λ t. refl
  ] refl

  module _ (f : Combine K X) where
    below_right : (k : K) (ys : List (K × X)) → T (below_all R k ys) → T (below_all R k (merge_right R f ys))
    below_right k [] h = tt
    below_right k (y ∷ ys) h = below_keep k y.0 _ _ (less _ (first _ _ h)) (below_right k ys (second _ _ h))

    below_entry : (k : K) (x : K × X) (rest : List (K × X) → List (K × X)) → R k x.0 ≡ Less → ((ys : List (K × X)) → T (below_all R k ys) → T (below_all R k (rest ys)))
        → (ys : List (K × X)) → T (below_all R k ys) → T (below_all R k (merge_entry R f x rest ys))
    below_entry k x rest p q [] h = below_keep k x.0 _ _ p (q [] tt)
    below_entry k x rest p q (y ∷ ys) h = elim (R x.0 y.0) as (λ r. T (below_all R k (by_order r
        (keep x.0 (f x.0 (Some x.1) None) (rest (y ∷ ys)))
        (keep x.0 (f x.0 (Some x.1) (Some y.1)) (rest ys))
        (keep y.0 (f y.0 None (Some y.1)) (merge_entry R f x rest ys))))) [
          | Less ↦ below_keep k x.0 _ _ p (q (y ∷ ys) h)
          | Equal ↦ below_keep k x.0 _ _ p (q ys (second _ _ h))
          | Greater ↦ below_keep k y.0 _ _ (less _ (first _ _ h)) (below_entry k x rest p q ys (second _ _ h))
        ]

    pub below_merge : (k : K) (xs ys : List (K × X)) → T (below_all R k xs) → T (below_all R k ys) → T (below_all R k (merge_entries R f xs ys))
    below_merge k [] ys g h = below_right k ys h
    below_merge k (x ∷ xs) ys g h = below_entry k x (merge_entries R f xs) (less _ (first _ _ g)) (λ ys h. below_merge k xs ys (second _ _ g) h) ys h

    sorted_right : (ys : List (K × X)) → T (is_sorted R ys) → T (is_sorted R (merge_right R f ys))
    sorted_right [] h = tt
    sorted_right (y ∷ ys) h = sorted_keep y.0 _ _ (below_right y.0 ys (first _ _ h)) (sorted_right ys (second _ _ h))

    -- x is below xs, and a merge with xs keeps the order
    record Follows (x : K × X) (xs : List (K × X)) : Type 0 where
      above : T (below_all R x.0 xs)
      sorted : (ys : List (K × X)) → T (is_sorted R ys) → T (is_sorted R (merge_entries R f xs ys))

    sorted_entry : (x : K × X) (xs : List (K × X)) → Follows x xs → (ys : List (K × X)) → T (is_sorted R ys) → T (is_sorted R (merge_entry R f x (merge_entries R f xs) ys))
    sorted_entry x xs u [] h = sorted_keep x.0 _ _ (below_merge x.0 xs [] u.above tt) (u.sorted [] tt)
    sorted_entry x xs u (y ∷ ys) h =
        let after_y = first (below_all R y.0 ys) (is_sorted R ys) h in
        elim (R x.0 y.0) as (λ r. R x.0 y.0 ≡ r → T (is_sorted R (by_order r
        (keep x.0 (f x.0 (Some x.1) None) (merge_entries R f xs (y ∷ ys)))
        (keep x.0 (f x.0 (Some x.1) (Some y.1)) (merge_entries R f xs ys))
        (keep y.0 (f y.0 None (Some y.1)) (merge_entry R f x (merge_entries R f xs) ys))))) [
          | Less ↦ λ p. sorted_keep x.0 _ _ (below_merge x.0 xs (y ∷ ys) u.above (yes_and _ _ (subst (λ r. T (is_lt r)) (sym p) tt) (below_more x.0 y.0 ys p after_y))) (u.sorted (y ∷ ys) h)
          | Equal ↦ λ p. sorted_keep x.0 _ _ (below_merge x.0 xs ys u.above (subst (λ k. T (below_all R k ys)) (sym (exact _ _ p)) after_y)) (u.sorted ys (second _ _ h))
          | Greater ↦ λ p.
              let y_first : R y.0 x.0 ≡ Less = o.antisymm y.0 x.0 ∙ ap ordering_reverse p in
              sorted_keep y.0 _ _ (below_merge y.0 (x ∷ xs) ys (yes_and _ _ (subst (λ r. T (is_lt r)) (sym y_first) tt) (below_more y.0 x.0 xs y_first u.above)) after_y) (sorted_entry x xs u ys (second _ _ h))
        ] refl

    -- the merge is in order
    pub sorted_merge : (xs ys : List (K × X)) → T (is_sorted R xs) → T (is_sorted R ys) → T (is_sorted R (merge_entries R f xs ys))
    sorted_merge [] ys g h = sorted_right ys h
    sorted_merge (x ∷ xs) ys g h = sorted_entry x xs (record { above = first (below_all R x.0 xs) (is_sorted R xs) g; sorted = λ ys h. sorted_merge xs ys (second _ _ g) h }) ys h

    module _ (nothing : (k : K) → f k None None ≡ None) where
      at_right : (q : K) (y : K × X) (ys : List (K × X)) → T (below_all R y.0 ys) → find R q (merge_right R f ys) ≡ f q None (find R q ys)
          → find R q (merge_right R f (y ∷ ys)) ≡ f q None (find R q (y ∷ ys))
      at_right q y ys b rest =
          find_keep q y.0 (f y.0 None (Some y.1)) (merge_right R f ys) (below_right y.0 ys b)
          ∙ elim (eq_by_cmp R q y.0) as (λ t. eq_by_cmp R q y.0 ≡ t → cond t (f y.0 None (Some y.1)) (find R q (merge_right R f ys)) ≡ f q None (cond t (Some y.1) (find R q ys))) [
            | true ↦ λ t. ap (λ k. f k None (Some y.1)) (sym (exact q y.0 (equal _ (subst T (sym t) tt))))
            | false ↦ λ t. rest
          ] refl

      find_right : (q : K) (ys : List (K × X)) → T (is_sorted R ys) → find R q (merge_right R f ys) ≡ f q None (find R q ys)
      find_right q [] h = sym (nothing q)
      find_right q (y ∷ ys) h = at_right q y ys (first _ _ h) (find_right q ys (second _ _ h))

      find_entry : (q : K) (x : K × X) (xs : List (K × X)) → Follows x xs
          → ((ys : List (K × X)) → T (is_sorted R ys) → find R q (merge_entries R f xs ys) ≡ f q (find R q xs) (find R q ys))
          → (ys : List (K × X)) → T (is_sorted R ys) → find R q (merge_entry R f x (merge_entries R f xs) ys) ≡ f q (find R q (x ∷ xs)) (find R q ys)
      find_entry q x xs u rest [] h =
          find_keep q x.0 (f x.0 (Some x.1) None) (merge_entries R f xs []) (below_merge x.0 xs [] u.above tt)
          ∙ elim (eq_by_cmp R q x.0) as (λ t. eq_by_cmp R q x.0 ≡ t → cond t (f x.0 (Some x.1) None) (find R q (merge_entries R f xs [])) ≡ f q (cond t (Some x.1) (find R q xs)) None) [
            | true ↦ λ t. ap (λ k. f k (Some x.1) None) (sym (exact q x.0 (equal _ (subst T (sym t) tt))))
            | false ↦ λ t. rest [] tt
          ] refl
      find_entry q x xs u rest (y ∷ ys) h =
          let after_y = first (below_all R y.0 ys) (is_sorted R ys) h in
          elim (R x.0 y.0) as (λ r. R x.0 y.0 ≡ r → find R q (by_order r
          (keep x.0 (f x.0 (Some x.1) None) (merge_entries R f xs (y ∷ ys)))
          (keep x.0 (f x.0 (Some x.1) (Some y.1)) (merge_entries R f xs ys))
          (keep y.0 (f y.0 None (Some y.1)) (merge_entry R f x (merge_entries R f xs) ys))) ≡ f q (find R q (x ∷ xs)) (find R q (y ∷ ys))) [
            | Less ↦ λ p.
                let x_below : T (below_all R x.0 (y ∷ ys)) = yes_and _ _ (subst (λ r. T (is_lt r)) (sym p) tt) (below_more x.0 y.0 ys p after_y) in
                find_keep q x.0 (f x.0 (Some x.1) None) (merge_entries R f xs (y ∷ ys)) (below_merge x.0 xs (y ∷ ys) u.above x_below)
                ∙ elim (eq_by_cmp R q x.0) as (λ t. eq_by_cmp R q x.0 ≡ t → cond t (f x.0 (Some x.1) None) (find R q (merge_entries R f xs (y ∷ ys))) ≡ f q (cond t (Some x.1) (find R q xs)) (find R q (y ∷ ys))) [
                  | true ↦ λ t.
                      let same = exact q x.0 (equal _ (subst T (sym t) tt)) in
                      ap (λ k. f k (Some x.1) None) (sym same) ∙ ap (f q (Some x.1)) (sym (ap (λ k. find R k (y ∷ ys)) same ∙ find_below x.0 (y ∷ ys) x_below))
                  | false ↦ λ t. rest (y ∷ ys) h
                ] refl
            | Equal ↦ λ p.
                let keys = exact x.0 y.0 p in
                find_keep q x.0 (f x.0 (Some x.1) (Some y.1)) (merge_entries R f xs ys) (below_merge x.0 xs ys u.above (subst (λ k. T (below_all R k ys)) (sym keys) after_y))
                ∙ elim (eq_by_cmp R q x.0) as (λ t. eq_by_cmp R q x.0 ≡ t → cond t (f x.0 (Some x.1) (Some y.1)) (find R q (merge_entries R f xs ys)) ≡ f q (cond t (Some x.1) (find R q xs)) (cond t (Some y.1) (find R q ys))) [
                  | true ↦ λ t. ap (λ k. f k (Some x.1) (Some y.1)) (sym (exact q x.0 (equal _ (subst T (sym t) tt))))
                  | false ↦ λ t. rest ys (second _ _ h)
                ] refl
                ∙ ap (λ k. f q (find R q (x ∷ xs)) (cond (eq_by_cmp R q k) (Some y.1) (find R q ys))) keys
            | Greater ↦ λ p.
                let y_first : R y.0 x.0 ≡ Less = o.antisymm y.0 x.0 ∙ ap ordering_reverse p in
                let y_below : T (below_all R y.0 (x ∷ xs)) = yes_and _ _ (subst (λ r. T (is_lt r)) (sym y_first) tt) (below_more y.0 x.0 xs y_first u.above) in
                find_keep q y.0 (f y.0 None (Some y.1)) (merge_entry R f x (merge_entries R f xs) ys) (below_merge y.0 (x ∷ xs) ys y_below after_y)
                ∙ elim (eq_by_cmp R q y.0) as (λ t. eq_by_cmp R q y.0 ≡ t → cond t (f y.0 None (Some y.1)) (find R q (merge_entry R f x (merge_entries R f xs) ys)) ≡ f q (find R q (x ∷ xs)) (cond t (Some y.1) (find R q ys))) [
                  | true ↦ λ t.
                      let same = exact q y.0 (equal _ (subst T (sym t) tt)) in
                      ap (λ k. f k None (Some y.1)) (sym same) ∙ ap (λ v. f q v (Some y.1)) (sym (ap (λ k. find R k (x ∷ xs)) same ∙ find_below y.0 (x ∷ xs) y_below))
                  | false ↦ λ t. find_entry q x xs u rest ys (second _ _ h)
                ] refl
          ] refl

      -- the value of the merge at a key
      pub find_merge : (q : K) (xs ys : List (K × X)) → T (is_sorted R xs) → T (is_sorted R ys) → find R q (merge_entries R f xs ys) ≡ f q (find R q xs) (find R q ys)
      find_merge q [] ys g h = find_right q ys h
      find_merge q (x ∷ xs) ys g h =
          find_entry q x xs (record { above = first (below_all R x.0 xs) (is_sorted R xs) g; sorted = λ ys h. sorted_merge xs ys (second _ _ g) h })
          (λ ys h. find_merge q xs ys (second _ _ g) h) ys h
