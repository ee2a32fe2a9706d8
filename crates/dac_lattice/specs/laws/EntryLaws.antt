-- Entries at an index of a sorted list, and properties of each key, shown by a loop over the entries.
use Rattle.std.specs.Prelude.{◌≡◌, ℕ, ◌+◌, ◌<◌, ◌≤◌, Bool, true, false, cond, ◌&&◌, T, List, [], ◌∷◌, length, Option, None, Some, refl}
use Rattle.std.proofs.lemmas.List.{take_all}
use Rattle.std.proofs.lemmas.List.Elements.{All-more}
use Rattle.std.proofs.Common.{take, zero, suc, sym, ap, subst, ◌∙◌, arith, get_or}
use Rattle.std.specs.declared.cmp.Ordering.{Ordering}
use Rattle.std.specs.declared.cmp.Ordering.TheVariants.{Less, Greater}
use Rattle.std.specs.Ordering.{is_lt, is_eq, eq_by_cmp, ordering_reverse}
use Rattle.std.specs.Cmp.{IsTotalOrder}
use Rattle.std.proofs.lemmas.Cmp.{tied_itself}
use Rattle.std.proofs.lemmas.Map.Lookups.{CmpEqualImpliesEq}
use Rattle.std.specs.FinMap.{find, is_sorted}
use Rattle.std.specs.FinMap.Entries.{below_all}
use Rattle.dac_origins.specs.laws.InOrder.{tie}
use Rattle.dac_lattice.specs.Search.{IsInOrder, AtEachKey, AtEachEntry}

pub first : (a b : Bool) → T (a && b) → T a
first a b p = grind arith

pub second : (a b : Bool) → T (a && b) → T b
second a b p = grind arith

pub less : (o : Ordering) → T (is_lt o) → o ≡ Less
less o p = grind arith

module _ {K : Type 0} {R : K → K → Ordering} (o : IsTotalOrder R) where
  pub greater : (x y : K) → R x y ≡ Less → R y x ≡ Greater
  greater x y p = o.antisymm y x ∙ ap ordering_reverse p

module _ {K X : Type 0} {R : K → K → Ordering} (o : IsTotalOrder R) (exact : CmpEqualImpliesEq R) where
  pub above_at : (x : K) (es : List (K × X)) (i : ℕ) (d : K × X) → T (below_all R x es) → i < length es → R x (get_or es i d).0 ≡ Less
  above_at x [] i d h p = absurd (omega arith)
  above_at x (e ∷ es) zero d h p = less _ (first _ _ h)
  above_at x (e ∷ es) (suc i) d h p = above_at x es i d (second _ _ h) (omega arith)

  -- a search for the key of an entry finds that entry
  pub find_at : (xs : List (K × X)) (i : ℕ) (d : K × X) → T (is_sorted R xs) → i < length xs → find R (get_or xs i d).0 xs ≡ Some (get_or xs i d).1
  find_at [] i d h p = absurd (omega arith)
  find_at (x ∷ xs) zero d h p = ap (λ r. cond (is_eq r) (Some x.1) (find R x.0 xs)) (tied_itself o x.0)
  find_at (x ∷ xs) (suc i) d h p =
      ap (λ r. cond (is_eq r) (Some x.1) (find R (get_or xs i d).0 xs)) (greater o x.0 (get_or xs i d).0 (above_at x.0 xs i d (first _ _ h) (omega arith)))
      ∙ find_at xs i d (second _ _ h) (omega arith)

module _ {K X : Type 0} {R : K → K → Ordering} (o : IsTotalOrder R) (exact : CmpEqualImpliesEq R) (P : K → Option X → Type 0) where
  pub each_key : ((k : K) → P k None) → (xs : List (K × X)) → AtEachEntry P xs → AtEachKey R P xs
  each_key none [] all k = none k
  each_key none (x ∷ xs) all k = elim (eq_by_cmp R k x.0) as (λ t. eq_by_cmp R k x.0 ≡ t → P k (cond t (Some x.1) (find R k xs))) [
    | true ↦ λ t. subst (λ q. P q (Some x.1)) (sym (exact k x.0 (tie (R k x.0) t))) (all 0 x (omega arith))
    | false ↦ λ t. each_key none xs (λ i d p. all (suc i) d (omega arith)) k
  ] refl

  pub each_entry : (xs : List (K × X)) → IsInOrder R xs → AtEachKey R P xs → AtEachEntry P xs
  each_entry xs h each i d p = subst (P _) (find_at o exact xs i d h p) (each _)

  -- a loop's step: one more entry has the property
  pub one_more : (xs : List (K × X)) (i : ℕ) (x : K × X) → i < length xs → x ≡ get_or xs i x → AtEachEntry P (take i xs) → P x.0 (Some x.1) → AtEachEntry P (take (i + 1) xs)
  one_more xs i x p is all here = All-more (λ e. P e.0 (Some e.1)) xs i x p all (subst (λ e. P e.0 (Some e.1)) is here)

  -- a loop's end: all keys have the property
  pub no_more : ((k : K) → P k None) → (xs : List (K × X)) (i : ℕ) → length xs ≤ i → AtEachEntry P (take i xs) → AtEachKey R P xs
  no_more none xs i p all = each_key none xs (subst (AtEachEntry P) (take_all i xs p) all)

  -- a property of each key holds of the entry at an index
  pub at_place : (xs : List (K × X)) (i : ℕ) (x : K × X) → IsInOrder R xs → i < length xs → x ≡ get_or xs i x → AtEachKey R P xs → P x.0 (Some x.1)
  at_place xs i x h p is each = subst (λ e. P e.0 (Some e.1)) (sym is) (each_entry xs h each i x p)
