-- Laws of the definitions in `Appending`.
use Rattle.std.specs.Prelude.{◌≡◌, ℕ, ◌+◌, ◌-◌, ◌<◌, ◌≤◌, Bool, true, false, cond, ◌&&◌, T, List, [], ◌∷◌, ◌++◌, length, Option, None, Some, unwrap_or, refl}
use Rattle.std.proofs.Common.{sym, ap, subst, ◌∙◌, arith, zero, suc, drop, take, length-drop, take-append-drop}
use Rattle.std.specs.declared.cmp.Ordering.{Ordering}
use Rattle.std.specs.Ordering.{is_lt, eq_by_cmp}
use Rattle.std.specs.Cmp.{IsTotalOrder}
use Rattle.std.specs.List.{list_all, slice_get}
use Rattle.std.specs.FinMap.{find, is_sorted}
use Rattle.std.specs.FinMap.Entries.{below_all}
use Rattle.std.proofs.Math.Bool.{and-true}
use Rattle.std.proofs.lemmas.Bool.{and_parts, and_from}
use Rattle.std.proofs.lemmas.List.Folds.{list_all-append}
use Rattle.std.proofs.Math.Facts.{yes_and}
use Rattle.dac_origins.specs.Keys.{is_below_all, IsRising}
use Rattle.dac_origins.specs.laws.InOrder.{less}
use Rattle.dac_lattice.specs.laws.EntryLaws.{first, second, less as below}
use Rattle.dac_sorted.specs.Appending.{is_above_entries, is_above_keys}

-- ---- the last element decides

implied : (a b : Bool) → (b ≡ true → a ≡ true) → (a && b) ≡ b
implied true b f = refl
implied false true f = f refl
implied false false f = refl

nothing : {A : Type 0} {x : A} → ◌≡◌ {A = Option A} None (Some x) → ⊥
nothing e = cc

some_at : {X : Type 0} (xs : List X) (i : ℕ) → i < length xs → None ≡ slice_get xs i → ⊥
some_at [] i p e = absurd (omega arith)
some_at (x ∷ xs) zero p e = nothing e
some_at (x ∷ xs) (suc i) p e = some_at xs i (omega arith) e

-- if there is no last element, all elements pass
pub all_without_last : {X : Type 0} (p : X → Bool) (xs : List X) → None ≡ slice_get xs (length xs - 1) → true ≡ list_all p xs
all_without_last p [] e = refl
all_without_last p (x ∷ xs) e = absurd (some_at (x ∷ xs) (length (x ∷ xs) - 1) (omega arith) e)

module _ {K : Type 0} {R : K → K → Ordering} (o : IsTotalOrder R) where
  below_at : (x : K) (ks : List K) (i : ℕ) (y : K) → is_below_all R x ks ≡ true → slice_get ks i ≡ Some y → is_lt (R x y) ≡ true
  below_at x [] i y h e = absurd (nothing e)
  below_at x (k ∷ ks) zero y h e = ap (λ z. is_lt (R x (unwrap_or z x))) (sym e) ∙ (and_parts _ _ h).0
  below_at x (k ∷ ks) (suc i) y h e = below_at x ks i y (and_parts _ _ h).1 e

  -- a key is above a sorted list exactly if it is above the last element
  pub above_last_key : (ks : List K) (i : ℕ) (last k : K) → IsRising R ks → length ks ≤ i + 1 → slice_get ks i ≡ Some last → is_above_keys R ks k ≡ is_lt (R last k)
  above_last_key [] i last k h p e = absurd (nothing e)
  above_last_key (x ∷ []) zero last k h p e = and-true _ ∙ ap (λ z. is_lt (R (unwrap_or z x) k)) e
  above_last_key (x ∷ []) (suc i) last k h p e = absurd (nothing e)
  above_last_key (x ∷ y ∷ ys) zero last k h p e = absurd (omega arith)
  above_last_key (x ∷ y ∷ ys) (suc i) last k h p e =
      ap (λ b. is_lt (R x k) && b) (above_last_key (y ∷ ys) i last k (and_parts _ _ h).1 (omega arith) e)
      ∙ implied (is_lt (R x k)) (is_lt (R last k)) (λ t. ap is_lt (o.trans x last k (less _ (below_at x (y ∷ ys) i last (and_parts _ _ h).0 e)) (less _ t)))

  rising_below : (x : K) (ks : List K) (k : K) → is_below_all R x ks ≡ true → is_lt (R x k) ≡ true → is_below_all R x (ks ++ k ∷ []) ≡ true
  rising_below x [] k h e = and_from _ _ e refl
  rising_below x (y ∷ ks) k h e = and_from _ _ (and_parts _ _ h).0 (rising_below x ks k (and_parts _ _ h).1 e)

  -- appending a key above all others leaves the list sorted
  pub rising_appended : (ks : List K) (k : K) → IsRising R ks → is_above_keys R ks k ≡ true → IsRising R (ks ++ k ∷ [])
  rising_appended [] k h a = refl
  rising_appended (x ∷ ks) k h a = and_from _ _ (rising_below x ks k (and_parts _ _ h).0 (and_parts _ _ a).0) (rising_appended ks k (and_parts _ _ h).1 (and_parts _ _ a).1)

module _ {K X : Type 0} {R : K → K → Ordering} (o : IsTotalOrder R) where
  below_later : (x : K) (xs ys : List (K × X)) (y : K × X) → T (below_all R x (xs ++ y ∷ ys)) → is_lt (R x y.0) ≡ true
  below_later x [] ys y h = ap is_lt (below (R x y.0) (first _ _ h))
  below_later x (z ∷ xs) ys y h = below_later x xs ys y (second _ _ h)

  -- a key above some entries is above those before them
  pub above_before : (xs ys : List (K × X)) (k : K) → T (is_sorted R (xs ++ ys)) → 0 < length ys → is_above_entries R ys k ≡ true → is_above_entries R xs k ≡ true
  above_before [] ys k h p a = refl
  above_before (x ∷ xs) [] k h p a = absurd (omega arith)
  above_before (x ∷ xs) (y ∷ ys) k h p a =
      and_from _ _
      (ap is_lt (o.trans x.0 y.0 k (less _ (below_later x.0 xs ys y (first _ _ h))) (less _ (and_parts _ _ a).0)))
      (above_before xs (y ∷ ys) k (second _ _ h) p a)

  -- a key is above entries in key order exactly if it is above the last one
  pub above_last_entry : (es : List (K × X)) (k : K) → T (is_sorted R es) → is_above_entries R (drop (length es - 1) es) k ≡ is_above_entries R es k
  above_last_entry [] k h = refl
  above_last_entry (x ∷ xs) k h =
      let es = x ∷ xs in
      let n = length es - 1 in
      let split : take n es ++ drop n es ≡ es = take-append-drop n es in
      let rest : length (drop n es) ≡ length es - n = length-drop n es in
      sym (implied _ _ (above_before (take n es) (drop n es) k (subst (λ l. T (is_sorted R l)) (sym split) h) (omega (arith, rest))))
      ∙ sym (list_all-append (λ (e : K × X). is_lt (R e.0 k)) (take n es) (drop n es))
      ∙ ap (λ l. is_above_entries R l k) split

  sorted_below : (x : K) (es : List (K × X)) (e : K × X) → T (below_all R x es) → is_lt (R x e.0) ≡ true → T (below_all R x (es ++ e ∷ []))
  sorted_below x [] e h t = yes_and _ _ (subst T (sym t) tt) tt
  sorted_below x (y ∷ es) e h t = yes_and _ _ (first _ _ h) (sorted_below x es e (second _ _ h) t)

  -- appending an entry above all others leaves the entries in order
  pub sorted_appended : (es : List (K × X)) (e : K × X) → T (is_sorted R es) → is_above_entries R es e.0 ≡ true → T (is_sorted R (es ++ e ∷ []))
  sorted_appended [] e h a = tt
  sorted_appended (x ∷ es) e h a = yes_and _ _ (sorted_below x.0 es e (first _ _ h) (and_parts _ _ a).0) (sorted_appended es e (second _ _ h) (and_parts _ _ a).1)

  -- a property of the value at a key, and of a new value, holds after the new value is appended
  pub find_appended : (P : Option X → Type 0) (es : List (K × X)) (e : K × X) (q : K) → P (find R q es) → P (Some e.1) → P (find R q (es ++ e ∷ []))
  find_appended P [] e q none here = elim (eq_by_cmp R q e.0) as (λ t. P (cond t (Some e.1) None)) [ true ↦ here | false ↦ none ]
  find_appended P (x ∷ es) e q at here = elim (eq_by_cmp R q x.0) as (λ t. P (cond t (Some x.1) (find R q es)) → P (cond t (Some x.1) (find R q (es ++ e ∷ [])))) [
    | true ↦ λ at. at
    | false ↦ λ at. find_appended P es e q at here
  ] at
