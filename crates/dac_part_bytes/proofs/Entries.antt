-- Entries in order: their keys ascend, a property of all entries holds of those that are found, and a map is that of
-- its entries.
use Rattle.std.specs.Prelude.{◌≡◌, Bool, true, false, cond, ◌&&◌, T, List, [], ◌∷◌, map as list_map, Option, None, Some, is_some, unwrap_or, refl}
use Rattle.std.proofs.Common.{sym, ap, subst, ◌∙◌, inl, inr}
use Rattle.dac_part_bytes.proofs.Common.{Ordering, is_eq, IsTotalOrder, tied_itself, AllByRecursion, find, false≢true, or_left, CmpEqualImpliesEq, IsRising}
use Rattle.std.specs.Ordering.{is_lt, eq_by_cmp}
use Rattle.std.specs.FinMap as map
use Rattle.std.specs.FinMap.{is_sorted}
use Rattle.std.specs.FinMap.Entries.{below_all, same_entries}
use Rattle.std.proofs.lemmas.Bool.{or_right, or_cases}
use Rattle.dac_origins.specs.Keys.{is_below_all, is_rising, has_key}
use Rattle.dac_origins.specs.laws.InOrder.{tie}
use Rattle.dac_lattice.specs.laws.Entries.{find_below}
use Rattle.dac_lattice.specs.laws.EntryLaws.{first, second}

is_true : (b : Bool) → T b → b ≡ true
is_true true h = refl
is_true false h = absurd h

none_some : {A : Type 0} (x : A) → None ≡ Some x → ⊥
none_some {A} x e = false≢true (ap (λ (o : Option A). is_some o) e)

abbrev keys : {K X : Type 0} → List (K × X) → List K
keys {K} {X} es = list_map (λ (e : K × X). e.0) es

module _ {K X : Type 0} (R : K → K → Ordering) where
  below_same : (k : K) (es : List (K × X)) → below_all R k es ≡ is_below_all R k (keys es)
  below_same k [] = refl
  below_same k (e ∷ es) = ap (λ b. is_lt (R k e.0) && b) (below_same k es)

  sorted_same : (es : List (K × X)) → is_sorted R es ≡ is_rising R (keys es)
  sorted_same [] = refl
  sorted_same (e ∷ es) = λ i. below_same e.0 es i && sorted_same es i

  pub sorted_of : (es : List (K × X)) → IsRising R (keys es) → T (is_sorted R es)
  sorted_of es h = subst T (sym (sorted_same es ∙ h)) tt

  pub rising_keys : (es : List (K × X)) → T (is_sorted R es) → IsRising R (keys es)
  rising_keys es h = sym (sorted_same es) ∙ is_true _ h

module _ {K : Type 0} {R : K → K → Ordering} where
  module _ (o : IsTotalOrder R) (exact : CmpEqualImpliesEq R) where
    -- ---- keys

    -- a property of each key of a list holds of all
    pub all_has : (P : K → Type 0) (ks : List K) → ((q : K) → has_key R ks q ≡ true → P q) → AllByRecursion P ks
    all_has P [] f = tt
    all_has P (k ∷ ks) f = (f k (or_left _ _ (ap is_eq (tied_itself o k))), all_has P ks (λ q h. f q (or_right _ _ h)))

    pub has_all : (P : K → Type 0) (ks : List K) → AllByRecursion P ks → (q : K) → has_key R ks q ≡ true → P q
    has_all P [] all q h = absurd (false≢true h)
    has_all P (k ∷ ks) all q h = elim (or_cases _ _ h) [
      | inl here ↦ subst P (sym (exact q k (tie _ here))) all.0
      | inr later ↦ has_all P ks all.1 q later
    ]

    -- ---- entries

    module _ {X : Type 0} where
      -- a property of each entry holds of those that are found
      pub found : (P : K × X → Type 0) (es : List (K × X)) → AllByRecursion P es → (k : K) (x : X) → find R k es ≡ Some x → P (k, x)
      found P [] all k x h = absurd (none_some x h)
      found P (e ∷ es) all k x h = elim (eq_by_cmp R k e.0) as (λ b. eq_by_cmp R k e.0 ≡ b → cond b (Some e.1) (find R k es) ≡ Some x → P (k, x)) [
        | true ↦ λ t h.
            let key : e.0 ≡ k = sym (exact k e.0 (tie _ t)) in
            let value : e.1 ≡ x = ap (λ (v : Option X). unwrap_or v e.1) h in
            let same : ◌≡◌ {A = K × X} e (k, x) = λ i. (key i, value i) in
            subst P same all.0
        | false ↦ λ t h. found P es all.1 k x h
      ] refl h

      -- a property of each key holds of those that are found
      pub found_key : (P : K → Type 0) (es : List (K × X)) → AllByRecursion (λ (e : K × X). P e.0) es → (k : K) → is_some (find R k es) ≡ true → P k
      found_key P [] all k h = absurd (false≢true h)
      found_key P (e ∷ es) all k h = elim (eq_by_cmp R k e.0) as (λ b. eq_by_cmp R k e.0 ≡ b → is_some (cond b (Some e.1) (find R k es)) ≡ true → P k) [
        | true ↦ λ t _. subst P (sym (exact k e.0 (tie _ t))) all.0
        | false ↦ λ t h. found_key P es all.1 k h
      ] refl h

      find_first : (e : K × X) (es : List (K × X)) → find R e.0 (e ∷ es) ≡ Some e.1
      find_first e es = ap (λ r. cond (is_eq r) (Some e.1) (find R e.0 es)) (tied_itself o e.0)

      find_later : (e : K × X) (es : List (K × X)) → T (below_all R e.0 es) → (k : K) (x : X) → find R k es ≡ Some x → find R k (e ∷ es) ≡ Some x
      find_later e es h k x p = elim (eq_by_cmp R k e.0) as (λ b. eq_by_cmp R k e.0 ≡ b → cond b (Some e.1) (find R k es) ≡ Some x) [
        | true ↦ λ t.
            let none : find R k es ≡ None = ap (λ q. find R q es) (exact k e.0 (tie _ t)) ∙ find_below o exact e.0 es h in
            absurd (none_some x (sym none ∙ p))
        | false ↦ λ t. p
      ] refl

      -- a property of those that are found holds of each entry
      pub all_found : (P : K × X → Type 0) (es : List (K × X)) → T (is_sorted R es) → ((k : K) (x : X) → find R k es ≡ Some x → P (k, x)) → AllByRecursion P es
      all_found P [] h f = tt
      all_found P (e ∷ es) h f = (f e.0 e.1 (find_first e es), all_found P es (second _ _ h) (λ k x p. f k x (find_later e es (first _ _ h) k x p)))

      -- ---- maps

      -- the entries of a map ascend by key
      pub entries_rise : (m : map.FinMap R X) → IsRising R (keys (map.entries m))
      entries_rise m = rising_keys R (map.entries m) (map.entries_sorted m)

      -- a map is the one made of its entries
      pub map_of_entries : (m : map.FinMap R X) → map.from_entries (map.entries m) ≡ m
      map_of_entries m = map.same_map o exact _ m (λ q. map.get-from_entries o (map.entries m) q ∙ sym (map.get-entries m q))

      -- ascending entries are those of the map made of them
      pub entries_of_map : (es : List (K × X)) → IsRising R (keys es) → es ≡ map.entries (map.from_entries {R = R} es)
      entries_of_map es rising =
          let m : map.FinMap R X = map.from_entries es in
          same_entries R o exact es (map.entries m) (sorted_of R es rising) (map.entries_sorted m) (λ q. sym (map.get-from_entries o es q) ∙ map.get-entries m q)
