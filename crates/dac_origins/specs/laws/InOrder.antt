-- Laws of the definitions in `InOrder`.
use Rattle.std.specs.Prelude.{◌≡◌, Bool, true, false, ◌||◌, List, [], ◌∷◌, refl}
use Rattle.std.proofs.Common.{sym, ap, ◌∙◌, arith}
use Rattle.std.specs.declared.cmp.Ordering.{Ordering}
use Rattle.std.specs.declared.cmp.Ordering.TheVariants.{Less, Equal, Greater}
use Rattle.std.specs.Ordering.{is_lt, is_eq, eq_by_cmp, ordering_reverse}
use Rattle.std.specs.Cmp.{IsTotalOrder}
use Rattle.std.specs.FinSet as set
use Rattle.std.specs.FinMap.Entries.{by_order}
use Rattle.std.proofs.lemmas.Bool.{and_parts, and_from, true≢false}
use Rattle.std.proofs.lemmas.Cmp.{tied_itself}
use Rattle.std.proofs.lemmas.Map.Lookups.{CmpEqualImpliesEq}
use Rattle.std.proofs.Math.Bool.{or_self_left}
use Rattle.dac_origins.specs.Keys.{is_below_all, IsRising, has_key}
use Rattle.dac_origins.specs.InOrder.{in_order, placed, sorted}

-- ---- disjunctions, and lists without a key

pub or_swap : (a b c : Bool) → (a || (b || c)) ≡ (b || (a || c))
or_swap a b c = grind arith

-- two tests are equal if their disjunctions with a third are, and both fail whenever it holds
pub rest_same : (a x y : Bool) → (a ≡ true → x ≡ false) → (a ≡ true → y ≡ false) → (a || x) ≡ (a || y) → x ≡ y
rest_same a x y p q e = grind arith

pub less : (r : Ordering) → is_lt r ≡ true → r ≡ Less
less r p = grind arith

pub tie : (r : Ordering) → is_eq r ≡ true → r ≡ Equal
tie r p = grind arith

module _ {K : Type 0} {R : K → K → Ordering} (o : IsTotalOrder R) where
  pub below_more : (x y : K) (ks : List K) → R x y ≡ Less → is_below_all R y ks ≡ true → is_below_all R x ks ≡ true
  below_more x y [] p h = refl
  below_more x y (k ∷ ks) p h = and_from _ _ (ap is_lt (o.trans x y k p (less _ (and_parts _ _ h).0))) (below_more x y ks p (and_parts _ _ h).1)

  below_placed : (x k : K) (ks : List K) → R x k ≡ Less → is_below_all R x ks ≡ true → is_below_all R x (placed R k ks) ≡ true
  below_placed x k [] p h = and_from _ _ (ap is_lt p) refl
  below_placed x k (y ∷ ys) p h = elim (R k y) as (λ r. is_below_all R x (by_order r (k ∷ y ∷ ys) (y ∷ ys) (y ∷ placed R k ys)) ≡ true) [
    | Less ↦ and_from _ _ (ap is_lt p) h
    | Equal ↦ h
    | Greater ↦ and_from _ _ (and_parts _ _ h).0 (below_placed x k ys p (and_parts _ _ h).1)
  ]

  rising_placed : (k : K) (ks : List K) → IsRising R ks → IsRising R (placed R k ks)
  rising_placed k [] h = refl
  rising_placed k (y ∷ ys) h = elim (R k y) as (λ r. R k y ≡ r → IsRising R (by_order r (k ∷ y ∷ ys) (y ∷ ys) (y ∷ placed R k ys))) [
    | Less ↦ λ p. and_from _ _ (and_from _ _ (ap is_lt p) (below_more k y ys p (and_parts _ _ h).0)) h
    | Equal ↦ λ p. h
    | Greater ↦ λ p. and_from _ _ (below_placed y k ys (o.antisymm y k ∙ ap ordering_reverse p) (and_parts _ _ h).0) (rising_placed k ys (and_parts _ _ h).1)
  ] refl

  rising_sorted : (ks : List K) → IsRising R (sorted R ks)
  rising_sorted [] = refl
  rising_sorted (k ∷ ks) = rising_placed k (sorted R ks) (rising_sorted ks)

  -- a key less than all of a list isn't in it
  pub below_absent : (k : K) (ks : List K) → is_below_all R k ks ≡ true → has_key R ks k ≡ false
  below_absent k [] h = refl
  below_absent k (x ∷ ks) h = ap (λ r. is_eq r || has_key R ks k) (less _ (and_parts _ _ h).0) ∙ below_absent k ks (and_parts _ _ h).1

  has_itself : (k : K) (ks : List K) → has_key R (k ∷ ks) k ≡ true
  has_itself k ks = ap (λ r. is_eq r || has_key R ks k) (tied_itself o k)

  module _ (exact : CmpEqualImpliesEq R) where
    has_key-placed : (k : K) (ks : List K) (q : K) → has_key R (placed R k ks) q ≡ (eq_by_cmp R q k || has_key R ks q)
    has_key-placed k [] q = refl
    has_key-placed k (y ∷ ys) q = elim (R k y) as (λ r. R k y ≡ r → has_key R (by_order r (k ∷ y ∷ ys) (y ∷ ys) (y ∷ placed R k ys)) q ≡ (eq_by_cmp R q k || has_key R (y ∷ ys) q)) [
      | Less ↦ λ p. refl
      | Equal ↦ λ p. sym (ap (λ x. eq_by_cmp R q x || (eq_by_cmp R q y || has_key R ys q)) (exact k y p) ∙ or_self_left (eq_by_cmp R q y) (has_key R ys q))
      | Greater ↦ λ p. ap (λ b. eq_by_cmp R q y || b) (has_key-placed k ys q) ∙ or_swap (eq_by_cmp R q y) (eq_by_cmp R q k) (has_key R ys q)
    ] refl

    has_key-sorted : (ks : List K) (q : K) → has_key R (sorted R ks) q ≡ has_key R ks q
    has_key-sorted [] q = refl
    has_key-sorted (k ∷ ks) q = has_key-placed k (sorted R ks) q ∙ ap (λ b. eq_by_cmp R q k || b) (has_key-sorted ks q)

    tied_absent : (q k : K) (ks : List K) → is_below_all R k ks ≡ true → eq_by_cmp R q k ≡ true → has_key R ks q ≡ false
    tied_absent q k ks h e = ap (has_key R ks) (exact q k (tie _ e)) ∙ below_absent k ks h

    -- if two sorted lists have the same keys, the first key of one isn't less than all of the other
    not_below : (x : K) (xs ys : List K) → ((q : K) → has_key R (x ∷ xs) q ≡ has_key R ys q) → is_below_all R x ys ≡ true → ⊥
    not_below x xs ys same h = true≢false (sym (has_itself x xs) ∙ same x ∙ below_absent x ys h)

    heads : (x y : K) (xs ys : List K) → IsRising R (x ∷ xs) → IsRising R (y ∷ ys) → ((q : K) → has_key R (x ∷ xs) q ≡ has_key R (y ∷ ys) q) → x ≡ y
    heads x y xs ys g h same = elim (R x y) as (λ r. R x y ≡ r → x ≡ y) [
      | Less ↦ λ p. absurd (not_below x xs (y ∷ ys) same (and_from _ _ (ap is_lt p) (below_more x y ys p (and_parts _ _ h).0)))
      | Equal ↦ λ p. exact x y p
      | Greater ↦ λ p.
          let y_first : R y x ≡ Less = o.antisymm y x ∙ ap ordering_reverse p in
          absurd (not_below y ys (x ∷ xs) (λ q. sym (same q)) (and_from _ _ (ap is_lt y_first) (below_more y x xs y_first (and_parts _ _ g).0)))
    ] refl

    -- two sorted lists with the same keys are equal
    pub same_rising : (xs ys : List K) → IsRising R xs → IsRising R ys → ((q : K) → has_key R xs q ≡ has_key R ys q) → xs ≡ ys
    same_rising [] [] g h same = refl
    same_rising [] (y ∷ ys) g h same = absurd (true≢false (sym (has_itself y ys) ∙ sym (same y)))
    same_rising (x ∷ xs) [] g h same = absurd (true≢false (sym (has_itself x xs) ∙ same x))
    same_rising (x ∷ xs) (y ∷ ys) g h same =
        let first = heads x y xs ys g h same in
        let rest : (q : K) → has_key R xs q ≡ has_key R ys q = λ q. rest_same (eq_by_cmp R q x) _ _
        (tied_absent q x xs (and_parts _ _ g).0)
        (λ e. tied_absent q y ys (and_parts _ _ h).0 (ap (eq_by_cmp R q) (sym first) ∙ e))
        (same q ∙ ap (λ k. eq_by_cmp R q k || has_key R ys q) (sym first)) in
        λ i. first i ∷ same_rising xs ys (and_parts _ _ g).1 (and_parts _ _ h).1 rest i

    pub in_order-rising : (s : set.FinSet R) → IsRising R (in_order s)
    unfolding in_order
    in_order-rising s = rising_sorted (set.items s)

    -- the sorted list of a set has the keys of the set
    pub has_key-in_order : (s : set.FinSet R) (q : K) → has_key R (in_order s) q ≡ set.contains s q
    unfolding in_order
    has_key-in_order s q = has_key-sorted (set.items s) q ∙ sym (set.contains-items s q)

    pub in_order-same : (s : set.FinSet R) → set.from_list (in_order s) ≡ s
    in_order-same s = set.same_set o exact _ _ (λ q. set.contains-from_list o (in_order s) q ∙ has_key-in_order s q)

    -- a sorted list equals the sorted list of its set
    pub in_order-one : (s : set.FinSet R) (ks : List K) → IsRising R ks → set.from_list ks ≡ s → ks ≡ in_order s
    in_order-one s ks h is = same_rising ks (in_order s) h (in_order-rising s) (λ q. sym (set.contains-from_list o ks q) ∙ ap (λ t. set.contains t q) is ∙ sym (has_key-in_order s q))
