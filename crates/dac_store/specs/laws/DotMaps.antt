-- Laws of the definitions in `DotMaps`.
use Rattle.std.specs.Prelude.{◌≡◌, Bool, true, false, ◌||◌, T, List, [], ◌∷◌, Option, None, Some, cond, refl}
use Rattle.std.proofs.Common.{sym, ap, subst, ◌∙◌, inl, inr}
use Rattle.std.specs.declared.cmp.Ordering.{Ordering}
use Rattle.std.specs.Ordering.{eq_by_cmp, is_eq}
use Rattle.std.specs.Cmp.{IsTotalOrder, Equal-is}
use Rattle.std.proofs.lemmas.Bool.{false≢true, or_cases, or_left, or_right, false_from_ne_true}
use Rattle.std.proofs.lemmas.Cmp.{tied_itself}
use Rattle.std.proofs.lemmas.Map.Lookups.{CmpEqualImpliesEq}
use Rattle.std.specs.FinSet as set
use Rattle.std.specs.FinMap.{find, is_sorted}
use Rattle.std.specs.FinMap.Entries.{same_entries}
use Rattle.dac_origins.specs.Dots.{Dots}
use Rattle.dac_origins.specs.declared.dot.Dot.{Dot}
use Rattle.dac_lattice.specs.laws.Entries.{sorted_merge, find_merge, find_below}
use Rattle.dac_lattice.specs.laws.EntryLaws.{first, second}
use Rattle.dac_store.specs.Stores.{IsStoreWithin, IsDotStore}
use Rattle.dac_store.specs.DotFuns.{is_empty_list}
use Rattle.dac_store.specs.laws.DotFuns.{when_empty}
use Rattle.dac_store.specs.DotMaps.{IsKept, IsKeyed, IsKeyedBelow, has_in, join_keyed, store_at, unless_empty}

module _ {K : Type 0} {R : K → K → Ordering} (o : IsTotalOrder R) (exact : CmpEqualImpliesEq R) {S : Type 0} {is_store : S → Type 0} {has : S → Dot → Bool} {below : S → Dots → S → Dots → Type 0} {join : S → Dots → S → Dots → S} {nothing : S} {is_empty : S → Bool} (laws : IsDotStore is_store has below join nothing is_empty) where
  pub at_store : (v : Option S) → IsKept is_store is_empty v → is_store (store_at nothing v)
  at_store None u = laws.empty_store
  at_store (Some s) u = u.0

  empty_nothing : is_empty nothing ≡ true
  empty_nothing = laws.bare nothing laws.empty_store laws.empty_has

  kept_at : (v : Option S) → IsKept is_store is_empty v → unless_empty is_empty (store_at nothing v) ≡ v
  kept_at None u = ap (λ b. cond b None (Some nothing)) empty_nothing
  kept_at (Some s) u = ap (λ b. cond b None (Some s)) u.1

  at_kept : (s : S) → is_store s → store_at nothing (unless_empty is_empty s) ≡ s
  at_kept s u = elim (is_empty s) as (λ b. is_empty s ≡ b → store_at nothing (cond b None (Some s)) ≡ s) [
    | true ↦ λ e. sym (laws.one_empty s u e)
    | false ↦ λ e. refl
  ] refl

  is_kept : (s : S) → is_store s → IsKept is_store is_empty (unless_empty is_empty s)
  is_kept s u = elim (is_empty s) as (λ b. is_empty s ≡ b → IsKept is_store is_empty (cond b None (Some s))) [
    | true ↦ λ e. tt
    | false ↦ λ e. (u, e)
  ] refl

  -- a dot in the store at a key is in the map
  has_found : (m : List (K × S)) (k : K) (x : Dot) → has (store_at nothing (find R k m)) x ≡ true → has_in has m x ≡ true
  has_found [] k x e = absurd (false≢true (sym (laws.empty_has x) ∙ e))
  has_found (f ∷ m) k x e = elim (eq_by_cmp R k f.0) as (λ t. has (store_at nothing (cond t (Some f.1) (find R k m))) x ≡ true → (has f.1 x || has_in has m x) ≡ true) [
    | true ↦ λ e. or_left _ _ e
    | false ↦ λ e. or_right _ _ (has_found m k x e)
  ] e

  find_first : (f : K × S) (m : List (K × S)) → find R f.0 (f ∷ m) ≡ Some f.1
  find_first f m = ap (λ r. cond (is_eq r) (Some f.1) (find R f.0 m)) (tied_itself o f.0)

  -- a dot of the map is in the store at some key
  found_has : (m : List (K × S)) (x : Dot) → T (is_sorted R m) → has_in has m x ≡ true → (k : K) × (has (store_at nothing (find R k m)) x ≡ true)
  found_has [] x h e = absurd (false≢true e)
  found_has (f ∷ m) x h e = elim (or_cases _ _ e) [
    | inl here ↦ (f.0, subst (λ v. has (store_at nothing v) x ≡ true) (sym (find_first f m)) here)
    | inr later ↦
        let rest = found_has m x (second _ _ h) later in
        let k = rest.0 in (
          k,
          elim (eq_by_cmp R k f.0) as (λ t. eq_by_cmp R k f.0 ≡ t → has (store_at nothing (cond t (Some f.1) (find R k m))) x ≡ true) [
            | true ↦ λ t.
                let none : find R k m ≡ None = ap (λ q. find R q m) (exact k f.0 ((Equal-is (R k f.0)).0 t)) ∙ find_below o exact f.0 m (first _ _ h) in
                absurd (false≢true (sym (laws.empty_has x) ∙ sym (ap (λ v. has (store_at nothing v) x) none) ∙ rest.1))
            | false ↦ λ t. rest.1
          ] refl,
        )
  ]

  abbrev IsKeyedWithin : List (K × S) → Dots → Type 0
  IsKeyedWithin = IsStoreWithin (IsKeyed R is_store is_empty) (has_in has)

  within_at : (m : List (K × S)) (c : Dots) → IsKeyedWithin m c → (k : K) → IsStoreWithin is_store has (store_at nothing (find R k m)) c
  within_at m c u k = record { store = at_store _ (u.store.stores k); held = λ x e. u.held x (has_found m k x e) }

  -- the joined store at a key, before it is dropped if it has no dots
  abbrev joined_at : List (K × S) → Dots → List (K × S) → Dots → K → S
  joined_at m c t d k = join (store_at nothing (find R k m)) c (store_at nothing (find R k t)) d

  joined_store : (m : List (K × S)) (c : Dots) (t : List (K × S)) (d : Dots) → IsKeyed R is_store is_empty m → IsKeyed R is_store is_empty t → (k : K) → is_store (joined_at m c t d k)
  joined_store m c t d u v k = laws.stored _ c _ d (at_store _ (u.stores k)) (at_store _ (v.stores k))

  none_join : (c d : Dots) → unless_empty is_empty (join nothing c nothing d) ≡ None
  none_join c d = ap (λ b. cond b None (Some (join nothing c nothing d)))
      (laws.bare _ (laws.stored nothing c nothing d laws.empty_store laws.empty_store) (λ x. false_from_ne_true _ (λ e.
      elim (or_cases _ _ (laws.comes nothing c nothing d x laws.empty_store laws.empty_store e)) [
        | inl a ↦ false≢true (sym (laws.empty_has x) ∙ a)
        | inr b ↦ false≢true (sym (laws.empty_has x) ∙ b)
      ])))

  find_keyed : (m : List (K × S)) (c : Dots) (t : List (K × S)) (d : Dots) → IsKeyed R is_store is_empty m → IsKeyed R is_store is_empty t → (k : K) → find R k (join_keyed R nothing is_empty join m c t d) ≡ unless_empty is_empty (joined_at m c t d k)
  find_keyed m c t d u v k = find_merge o exact (λ _ v w. unless_empty is_empty (join (store_at nothing v) c (store_at nothing w) d)) (λ _. none_join c d) k m t u.in_order v.in_order

  pub at_join : (m : List (K × S)) (c : Dots) (t : List (K × S)) (d : Dots) → IsKeyed R is_store is_empty m → IsKeyed R is_store is_empty t → (k : K) → store_at nothing (find R k (join_keyed R nothing is_empty join m c t d)) ≡ joined_at m c t d k
  at_join m c t d u v k = ap (store_at nothing) (find_keyed m c t d u v k) ∙ at_kept _ (joined_store m c t d u v k)

  bare_keyed : (m : List (K × S)) → IsKeyed R is_store is_empty m → ((x : Dot) → has_in has m x ≡ false) → is_empty_list m ≡ true
  bare_keyed [] u h = refl
  bare_keyed (f ∷ m) u h =
      let here : IsKept is_store is_empty (Some f.1) = subst (IsKept is_store is_empty) (find_first f m) (u.stores f.0) in
      absurd (false≢true (sym here.1 ∙ laws.bare f.1 here.0 (λ x. false_from_ne_true _ (λ e. false≢true (sym (h x) ∙ or_left _ _ e)))))

  pub keyed_laws : IsDotStore (IsKeyed R is_store is_empty) (has_in has) (IsKeyedBelow R nothing below) (join_keyed R nothing is_empty join) [] is_empty_list
  keyed_laws = record {
    refl = λ s c u k. laws.refl _ c (within_at s c u k);
    trans = λ s c t d u e us ut uu cd de p q k. laws.trans _ c _ d _ e (within_at s c us k) (within_at t d ut k) (within_at u e uu k) cd de (p k) (q k);
    antisymm = λ s t c us ut p q. same_entries R o exact s t us.store.in_order ut.store.in_order (λ k.
        sym (kept_at _ (us.store.stores k)) ∙ ap (unless_empty is_empty) (laws.antisymm _ _ c (within_at s c us k) (within_at t c ut k) (p k) (q k)) ∙ kept_at _ (ut.store.stores k));
    stored = λ s c t d us ut. record {
      in_order = sorted_merge o exact (λ _ v w. unless_empty is_empty (join (store_at nothing v) c (store_at nothing w) d)) s t us.in_order ut.in_order;
      stores = λ k. subst (IsKept is_store is_empty) (sym (find_keyed s c t d us ut k)) (is_kept _ (joined_store s c t d us ut k));
    };
    comes = λ s c t d x us ut h.
        let in_order = sorted_merge o exact (λ _ v w. unless_empty is_empty (join (store_at nothing v) c (store_at nothing w) d)) s t us.in_order ut.in_order in
        let at = found_has (join_keyed R nothing is_empty join s c t d) x in_order h in
        elim (or_cases _ _ (laws.comes _ c _ d x (at_store _ (us.stores at.0)) (at_store _ (ut.stores at.0)) (ap (λ j. has j x) (sym (at_join s c t d us ut at.0)) ∙ at.1))) [
          | inl a ↦ or_left _ _ (has_found s at.0 x a)
          | inr b ↦ or_right _ _ (has_found t at.0 x b)
        ];
    left = λ s c t d us ut k. subst (λ j. below (store_at nothing (find R k s)) c j (set.union c d)) (sym (at_join s c t d us.store ut.store k)) (laws.left _ c _ d (within_at s c us k) (within_at t d ut k));
    right = λ s c t d us ut k. subst (λ j. below (store_at nothing (find R k t)) d j (set.union c d)) (sym (at_join s c t d us.store ut.store k)) (laws.right _ c _ d (within_at s c us k) (within_at t d ut k));
    least = λ s c t d u e us ut uu ce de p q k. subst (λ j. below j (set.union c d) (store_at nothing (find R k u)) e) (sym (at_join s c t d us.store ut.store k))
        (laws.least _ c _ d _ e (within_at s c us k) (within_at t d ut k) (within_at u e uu k) ce de (p k) (q k));
    empty_store = record { in_order = tt; stores = λ k. tt };
    empty_has = λ x. refl;
    bare = λ s u h. bare_keyed s u h;
    one_empty = λ s u e. when_empty s e;
    cleared = λ s c d u k. laws.cleared _ c d (at_store _ (u.stores k));
    first = λ s c u k. laws.first _ c (within_at s c u k);
    alone = λ s c d u h. same_entries R o exact (join_keyed R nothing is_empty join s c [] d) s
        (sorted_merge o exact (λ _ v w. unless_empty is_empty (join (store_at nothing v) c (store_at nothing w) d)) s [] u.in_order tt) u.in_order
        (λ k. find_keyed s c [] d u (record { in_order = tt; stores = λ k. tt }) k
        ∙ ap (unless_empty is_empty) (laws.alone _ c d (at_store _ (u.stores k)) (λ x e. h x (has_found s k x e)))
        ∙ kept_at _ (u.stores k));
    alone_right = λ s c d u h. same_entries R o exact (join_keyed R nothing is_empty join [] d s c) s
        (sorted_merge o exact (λ _ v w. unless_empty is_empty (join (store_at nothing v) d (store_at nothing w) c)) [] s tt u.in_order) u.in_order
        (λ k. find_keyed [] d s c (record { in_order = tt; stores = λ k. tt }) u k
        ∙ ap (unless_empty is_empty) (laws.alone_right _ c d (at_store _ (u.stores k)) (λ x e. h x (has_found s k x e)))
        ∙ kept_at _ (u.stores k));
    again = λ s c d u. same_entries R o exact (join_keyed R nothing is_empty join s c s d) s
        (sorted_merge o exact (λ _ v w. unless_empty is_empty (join (store_at nothing v) c (store_at nothing w) d)) s s u.in_order u.in_order) u.in_order
        (λ k. find_keyed s c s d u u k
        ∙ ap (unless_empty is_empty) (laws.again _ c d (at_store _ (u.stores k)))
        ∙ kept_at _ (u.stores k));
    same = λ s c d u k. laws.same _ c d (at_store _ (u.stores k));
    unheard = λ s t c d h k. laws.unheard _ _ c d (λ x e. h x (has_found t k x e));
    alike = λ s c t d b e u v f g. same_entries R o exact (join_keyed R nothing is_empty join s c t d) (join_keyed R nothing is_empty join s b t e)
        (sorted_merge o exact (λ _ v w. unless_empty is_empty (join (store_at nothing v) c (store_at nothing w) d)) s t u.in_order v.in_order)
        (sorted_merge o exact (λ _ v w. unless_empty is_empty (join (store_at nothing v) b (store_at nothing w) e)) s t u.in_order v.in_order)
        (λ k. find_keyed s c t d u v k
        ∙ ap (unless_empty is_empty) (laws.alike _ c _ d b e (at_store _ (u.stores k)) (at_store _ (v.stores k)) (λ x h. f x (has_found t k x h)) (λ x h. g x (has_found s k x h)))
        ∙ sym (find_keyed s b t e u v k));
  }
