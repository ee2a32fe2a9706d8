-- Laws of the definitions in `DotFuns`.
use Rattle.std.specs.Prelude.{◌≡◌, true, false, List, [], ◌∷◌, Some, is_some, cond, refl}
use Rattle.std.proofs.Common.{sym, ap, subst, ◌∙◌}
use Rattle.std.proofs.lemmas.Bool.{false≢true}
use Rattle.std.proofs.lemmas.Cmp.{tied_itself}
use Rattle.std.specs.Ordering.{is_eq}
use Rattle.std.specs.FinSet as set
use Rattle.std.specs.FinMap.{find}
use Rattle.std.specs.FinMap.Entries.{same_entries}
use Rattle.dac_origins.specs.Dots.{Dots, dot_cmp}
use Rattle.dac_origins.specs.laws.Dots.{dots_total, exact_dots}
use Rattle.dac_origins.specs.declared.dot.Dot.{Dot}
use Rattle.dac_lattice.specs.Lattices.{IsLattice, IsOptionOf}
use Rattle.dac_lattice.specs.Maps.{IsMap}
use Rattle.dac_lattice.specs.laws.Entries.{sorted_merge, find_merge}
use Rattle.dac_store.specs.Stores.{IsStoreWithin, IsDotStore}
use Rattle.dac_store.specs.AtDot.{StandsBelow, join_at, Under}
use Rattle.dac_store.specs.laws.AtDot.{at_again, at_alone, at_alone_right, at_alike, at_unheard, at_refl, at_trans, at_antisymm, at_closed, at_comes, at_left, at_right, at_least}
use Rattle.dac_store.specs.DotFuns.{IsFunBelow, has_dot, is_empty_list, join_funs}

empty_when_bare : {V : Type 0} (s : List (Dot × V)) → ((x : Dot) → has_dot s x ≡ false) → is_empty_list s ≡ true
empty_when_bare [] h = refl
empty_when_bare (e ∷ es) h = absurd (false≢true (sym (h e.0) ∙ ap (λ r. is_some (cond (is_eq r) (Some e.1) (find dot_cmp e.0 es))) (tied_itself dots_total e.0)))

pub when_empty : {X : Type 0} (s : List X) → is_empty_list s ≡ true → s ≡ []
when_empty [] e = refl
when_empty (x ∷ xs) e = absurd (false≢true e)

module _ {V : Type 0} {is_value : V → Type 0} {below : V → V → Type 0} {join : V → V → V} (laws : IsLattice is_value below join) where
  abbrev IsFunWithin : List (Dot × V) → Dots → Type 0
  IsFunWithin = IsStoreWithin (IsMap dot_cmp is_value) has_dot

  under : (s : List (Dot × V)) (c : Dots) → IsFunWithin s c → (x : Dot) → Under is_value (set.contains c x) (find dot_cmp x s)
  under s c u x = (u.store.values x, u.held x)

  -- the value of a join at a dot
  pub find_join : (s : List (Dot × V)) (c : Dots) (t : List (Dot × V)) (d : Dots) → IsMap dot_cmp is_value s → IsMap dot_cmp is_value t → (x : Dot)
      → find dot_cmp x (join_funs join s c t d) ≡ join_at join (set.contains c x) (set.contains d x) (find dot_cmp x s) (find dot_cmp x t)
  find_join s c t d u v x = find_merge dots_total exact_dots (λ x. join_at join (set.contains c x) (set.contains d x)) (λ _. refl) x s t u.in_order v.in_order

  pub fun_laws : IsDotStore (IsMap dot_cmp is_value) has_dot (IsFunBelow below) (join_funs join) [] is_empty_list
  fun_laws = record {
    refl = λ s c u x h. at_refl laws _ (u.store.values x);
    trans = λ s c t d u e us ut uu cd de p q x h. at_trans laws _ _ _ (us.store.values x) (ut.store.values x) (uu.store.values x) (p x h) (q x (cd x h));
    antisymm = λ s t c us ut p q. same_entries dot_cmp dots_total exact_dots s t us.store.in_order ut.store.in_order (λ x. at_antisymm laws (set.contains c x) _ _ (under s c us x) (under t c ut x) (p x) (q x));
    stored = λ s c t d us ut. record {
      in_order = sorted_merge dots_total exact_dots (λ x. join_at join (set.contains c x) (set.contains d x)) s t us.in_order ut.in_order;
      values = λ x. subst (IsOptionOf is_value) (sym (find_join s c t d us ut x)) (at_closed laws (set.contains c x) (set.contains d x) _ _ (us.values x) (ut.values x));
    };
    comes = λ s c t d x us ut h. at_comes laws (set.contains c x) (set.contains d x) _ _ (ap is_some (sym (find_join s c t d us ut x)) ∙ h);
    left = λ s c t d us ut x h. subst (StandsBelow below (find dot_cmp x s)) (sym (find_join s c t d us.store ut.store x)) (at_left laws (set.contains c x) (set.contains d x) _ _ (under s c us x) (under t d ut x) h);
    right = λ s c t d us ut x h. subst (StandsBelow below (find dot_cmp x t)) (sym (find_join s c t d us.store ut.store x)) (at_right laws (set.contains c x) (set.contains d x) _ _ (under s c us x) (under t d ut x) h);
    least = λ s c t d u e us ut uu ce de p q x h. subst (λ j. StandsBelow below j (find dot_cmp x u)) (sym (find_join s c t d us.store ut.store x))
        (at_least laws (set.contains c x) (set.contains d x) _ _ _ (under s c us x) (under t d ut x) (uu.store.values x) (p x) (q x) (sym (set.contains-union dots_total c d x) ∙ h));
    empty_store = record { in_order = tt; values = λ x. tt };
    empty_has = λ x. refl;
    bare = λ s u h. empty_when_bare s h;
    one_empty = λ s u e. when_empty s e;
    cleared = λ s c d u x h. tt;
    first = λ s c u x h. absurd (false≢true (sym (set.contains-empty dot_cmp x) ∙ h));
    alone = λ s c d u h. same_entries dot_cmp dots_total exact_dots (join_funs join s c [] d) s
        (sorted_merge dots_total exact_dots (λ x. join_at join (set.contains c x) (set.contains d x)) s [] u.in_order tt) u.in_order
        (λ x. find_join s c [] d u (record { in_order = tt; values = λ x. tt }) x ∙ at_alone join (set.contains c x) (set.contains d x) (find dot_cmp x s) (h x));
    alone_right = λ s c d u h. same_entries dot_cmp dots_total exact_dots (join_funs join [] d s c) s
        (sorted_merge dots_total exact_dots (λ x. join_at join (set.contains d x) (set.contains c x)) [] s tt u.in_order) u.in_order
        (λ x. find_join [] d s c (record { in_order = tt; values = λ x. tt }) u x ∙ at_alone_right join (set.contains c x) (set.contains d x) (find dot_cmp x s) (h x));
    again = λ s c d u. same_entries dot_cmp dots_total exact_dots (join_funs join s c s d) s
        (sorted_merge dots_total exact_dots (λ x. join_at join (set.contains c x) (set.contains d x)) s s u.in_order u.in_order) u.in_order
        (λ x. find_join s c s d u u x ∙ at_again laws (set.contains c x) (set.contains d x) (find dot_cmp x s) (u.values x));
    same = λ s c d u x h. at_refl laws _ (u.values x);
    unheard = λ s t c d h x e. at_unheard below (set.contains c x) _ _ (h x) e;
    alike = λ s c t d b e u v f g. same_entries dot_cmp dots_total exact_dots (join_funs join s c t d) (join_funs join s b t e)
        (sorted_merge dots_total exact_dots (λ x. join_at join (set.contains c x) (set.contains d x)) s t u.in_order v.in_order)
        (sorted_merge dots_total exact_dots (λ x. join_at join (set.contains b x) (set.contains e x)) s t u.in_order v.in_order)
        (λ x. find_join s c t d u v x
        ∙ at_alike join (set.contains c x) (set.contains d x) (set.contains b x) (set.contains e x) (find dot_cmp x s) (find dot_cmp x t) (f x) (g x)
        ∙ sym (find_join s b t e u v x));
  }
