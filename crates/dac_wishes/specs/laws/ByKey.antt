-- Laws of the definitions in `ByKey`.
use Rattle.std.specs.Prelude.{◌≡◌, Bool, true, false, not, cond, ◌||◌, T, List, [], ◌∷◌, Option, None, Some, refl, filter, map as list_map}
use Rattle.std.proofs.Common.{sym, ap, subst, ◌∙◌}
use Rattle.std.specs.declared.cmp.Ordering.{Ordering}
use Rattle.std.specs.Ordering.{eq_by_cmp}
use Rattle.std.specs.FinMap.{find, is_sorted}
use Rattle.std.specs.FinMap.Entries.{below_all}
use Rattle.std.proofs.lemmas.Bool.{and_parts}
use Rattle.std.proofs.lemmas.Map.Lookups.{CmpEqualImpliesEq}
use Rattle.dac_origins.specs.Keys.{IsRising, is_below_all, has_key}
use Rattle.dac_store.specs.DotMaps.{store_at, unless_empty, IsKept, IsKeyed}
use Rattle.dac_wishes.specs.laws.KeyedWrites.{tied_is}
use Rattle.dac_wishes.specs.ByKey.{by_key, keys_in}
use Rattle.std.specs.List.{list_any}
use Rattle.std.specs.Cmp.{IsTotalOrder}
use Rattle.std.specs.FinSet as set
use Rattle.std.proofs.lemmas.Cmp.{eq_by_cmp_equiv}
use Rattle.std.proofs.Math.Facts.{yes_and}
use Rattle.dac_origins.specs.laws.InOrder.{in_order-rising, has_key-in_order}
use Rattle.dac_origins.specs.laws.Basics.{list_any-list_map}
use Rattle.dac_store.specs.DotFuns.{is_empty_list}

module _ {K X : Type 0} {R : K → K → Ordering} (keys_total : IsTotalOrder R) (exact_keys : CmpEqualImpliesEq R) (key : X → K) where
  -- the elements at a key
  abbrev of_key : K → List X → List X
  of_key q xs = filter (λ (x : X). eq_by_cmp R (key x) q) xs

  pub keys_in-rising : (xs : List X) → IsRising R (keys_in R key xs)
  keys_in-rising xs = in_order-rising keys_total exact_keys (set.from_list (list_map key xs))

  turned : (q : K) (xs : List X) → list_any (λ x. eq_by_cmp R q (key x)) xs ≡ list_any (λ x. eq_by_cmp R (key x) q) xs
  turned q [] = refl
  turned q (x ∷ xs) = λ i. (eq_by_cmp_equiv keys_total).symm q (key x) i || turned q xs i

  has_key-keys_in : (xs : List X) (q : K) → has_key R (keys_in R key xs) q ≡ list_any (λ x. eq_by_cmp R (key x) q) xs
  has_key-keys_in xs q =
      has_key-in_order keys_total exact_keys (set.from_list (list_map key xs)) q
      ∙ set.contains-from_list keys_total (list_map key xs) q
      ∙ list_any-list_map (eq_by_cmp R q) key xs
      ∙ turned q xs

  none_of_key : (q : K) (xs : List X) → is_empty_list (of_key q xs) ≡ not (list_any (λ x. eq_by_cmp R (key x) q) xs)
  none_of_key q [] = refl
  none_of_key q (x ∷ xs) = elim (eq_by_cmp R (key x) q) as (λ b. is_empty_list (cond b (x ∷ of_key q xs) (of_key q xs)) ≡ not (b || list_any (λ x. eq_by_cmp R (key x) q) xs)) [
    | true ↦ refl
    | false ↦ none_of_key q xs
  ]

  -- a key isn't in the list exactly if no element is at it
  pub none_if_absent : {Y : Type 0} (f : X → Y) (q : K) (xs : List X) → is_empty_list (list_map f (of_key q xs)) ≡ not (has_key R (keys_in R key xs) q)
  none_if_absent f q xs = mapped (of_key q xs) ∙ none_of_key q xs ∙ ap not (sym (has_key-keys_in xs q))
    where
      mapped : (ys : List X) → is_empty_list (list_map f ys) ≡ is_empty_list ys
      mapped [] = refl
      mapped (y ∷ ys) = refl

module _ {K S : Type 0} {R : K → K → Ordering} (exact_keys : CmpEqualImpliesEq R) (at : K → S) where
  find-by_key : (ks : List K) (q : K) → find R q (by_key at ks) ≡ cond (has_key R ks q) (Some (at q)) None
  find-by_key [] q = refl
  find-by_key (k ∷ ks) q = elim (eq_by_cmp R q k) as (λ b. eq_by_cmp R q k ≡ b → cond b (Some (at k)) (find R q (by_key at ks)) ≡ cond (b || has_key R ks q) (Some (at q)) None) [
    | true ↦ λ t. ap (λ x. Some (at x)) (sym (tied_is exact_keys q k t))
    | false ↦ λ t. find-by_key ks q
  ] refl

  below_by_key : (x : K) (ks : List K) → is_below_all R x ks ≡ true → T (below_all R x (by_key at ks))
  below_by_key x [] h = tt
  below_by_key x (k ∷ ks) h = yes_and _ _ (subst T (sym (and_parts _ _ h).0) tt) (below_by_key x ks (and_parts _ _ h).1)

  pub sorted_by_key : (ks : List K) → IsRising R ks → T (is_sorted R (by_key at ks))
  sorted_by_key [] h = tt
  sorted_by_key (k ∷ ks) h = yes_and _ _ (below_by_key k ks (and_parts _ _ h).0) (sorted_by_key ks (and_parts _ _ h).1)

  module _ (is_empty : S → Bool) where
    -- a search returns the value at the key, unless it is empty
    pub find_kept : (ks : List K) (q : K) → is_empty (at q) ≡ not (has_key R ks q) → find R q (by_key at ks) ≡ unless_empty is_empty (at q)
    find_kept ks q e =
        find-by_key ks q
        ∙ elim (has_key R ks q) as (λ b. is_empty (at q) ≡ not b → cond b (Some (at q)) None ≡ unless_empty is_empty (at q)) [
          | true ↦ λ e. ap (λ b. cond b None (Some (at q))) (sym e)
          | false ↦ λ e. ap (λ b. cond b None (Some (at q))) (sym e)
        ] e

    -- a list by key satisfies the stored invariant
    pub keyed_by_key : (is_store : S → Type 0) → ((k : K) → is_store (at k)) → (ks : List K) → IsRising R ks → ((q : K) → is_empty (at q) ≡ not (has_key R ks q)) → IsKeyed R is_store is_empty (by_key at ks)
    keyed_by_key is_store stores ks h e = record {
      in_order = sorted_by_key ks h;
      stores = λ q. subst (IsKept is_store is_empty) (sym (find_kept ks q (e q))) (is_kept q);
    }
      where
        is_kept : (q : K) → IsKept is_store is_empty (unless_empty is_empty (at q))
        is_kept q = elim (is_empty (at q)) as (λ b. is_empty (at q) ≡ b → IsKept is_store is_empty (cond b None (Some (at q)))) [
          | true ↦ λ _. tt
          | false ↦ λ t. (stores q, t)
        ] refl

module _ {S : Type 0} (is_empty : S → Bool) (nothing : S) where
  -- the value at a key of a list that satisfies the stored invariant
  pub kept_again : (is_store : S → Type 0) (v : Option S) → is_empty nothing ≡ true → IsKept is_store is_empty v → unless_empty is_empty (store_at nothing v) ≡ v
  kept_again is_store None e u = ap (λ b. cond b None (Some nothing)) e
  kept_again is_store (Some s) e u = ap (λ b. cond b None (Some s)) u.1

  pub again_kept : (s : S) → (is_empty s ≡ true → s ≡ nothing) → store_at nothing (unless_empty is_empty s) ≡ s
  again_kept s one = elim (is_empty s) as (λ b. is_empty s ≡ b → store_at nothing (cond b None (Some s)) ≡ s) [
    | true ↦ λ t. sym (one t)
    | false ↦ λ t. refl
  ] refl
