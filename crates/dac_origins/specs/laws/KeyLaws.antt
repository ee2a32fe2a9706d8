-- Laws of lists of keys and the sets that they represent, and of `==` on origins.
use Rattle.std.specs.Prelude.{◌≡◌, ℕ, zero, suc, ◌+◌, ◌<◌, ◌≤◌, true, false, ◌&&◌, ◌||◌, cond, nat_eq, List, [], ◌∷◌, length, refl}
use Rattle.std.proofs.Common.{inl, inr, take, get_or, sym, ap, subst, ◌∙◌, arith, add-one}
use Rattle.std.specs.declared.cmp.Ordering.{Ordering}
use Rattle.std.specs.declared.cmp.Ordering.TheVariants.{Less, Greater}
use Rattle.std.specs.Ordering.{eq_by_cmp, is_eq, is_lt, ordering_reverse}
use Rattle.std.specs.Cmp.{IsTotalOrder}
use Rattle.std.specs.List.{All, AllWithin, insert}
use Rattle.std.specs.FinSet as set
use Rattle.std.proofs.lemmas.Bool.{and_parts, and_from, or_cases, false≢true, eqb-true}
use Rattle.std.proofs.lemmas.Cmp.{tied_itself}
use Rattle.std.proofs.lemmas.List.{take_all}
use Rattle.std.proofs.lemmas.List.Elements.{All-head, All-tail}
use Rattle.std.proofs.lemmas.List.Folds.{list_any_at}
use Rattle.std.proofs.lemmas.Map.Lookups.{CmpEqualImpliesEq}
use Rattle.dac_origins.specs.Keys.{is_below_all, IsRising, has_key}
use Rattle.dac_origins.specs.laws.InOrder.{less, tie, below_absent, below_more}
use Rattle.dac_origins.specs.declared.dot.Origin.{Origin}

module _ {K : Type 0} {R : K → K → Ordering} (o : IsTotalOrder R) where
  -- a list has a key exactly if its set has it
  pub has_is : (ks : List K) (s : set.FinSet R) → set.from_list ks ≡ s → (q : K) → has_key R ks q ≡ set.contains s q
  has_is ks s is q = sym (set.contains-from_list o ks q) ∙ ap (λ t. set.contains t q) is

  -- a key that ties with an element is in the list
  pub has_at : (ks : List K) (q : K) (i : ℕ) (e : K) → i < length ks → eq_by_cmp R q (get_or ks i e) ≡ true → has_key R ks q ≡ true
  has_at ks q i e p tied = list_any_at (eq_by_cmp R q) ks i e p tied

  -- each element of the list is in its set
  pub member_at : (ks : List K) (s : set.FinSet R) → set.from_list ks ≡ s → (i : ℕ) (e : K) → i < length ks → set.contains s (get_or ks i e) ≡ true
  member_at ks s is i e p =
      let k = get_or ks i e in
      sym (has_is ks s is k) ∙ has_at ks k i e p (ap is_eq (tied_itself o k))

  -- the length of a sorted list is the size of its set
  pub len_rising : (ks : List K) → IsRising R ks → length ks ≡ set.len (set.from_list {R = R} ks)
  len_rising [] h = sym (set.len-empty R)
  len_rising (k ∷ ks) h =
      let parts = and_parts _ _ h in
      let rest = set.len (set.from_list {R = R} ks) in
      sym (set.len-insert o (set.from_list ks) k
      ∙ ap (λ b. cond b rest (rest + 1)) (sym (has_is ks (set.from_list ks) (λ i. set.from_list ks) k) ∙ below_absent o k ks parts.0)
      ∙ ap (λ n. n + 1) (sym (len_rising ks parts.1))
      ∙ add-one (length ks))

  -- the order is antisymmetric: if x is less than y, then y is greater than x, and conversely
  pub greater : (x y : K) → R x y ≡ Less → R y x ≡ Greater
  greater x y p = o.antisymm y x ∙ ap ordering_reverse p

  pub smaller : (x y : K) → R x y ≡ Greater → R y x ≡ Less
  smaller x y p = o.antisymm y x ∙ ap ordering_reverse p

  -- a key less than all of a list is less than each element
  pub below_at : (x : K) (ks : List K) (i : ℕ) (d : K) → is_below_all R x ks ≡ true → i < length ks → R x (get_or ks i d) ≡ Less
  below_at x [] i d h p = absurd (omega arith)
  below_at x (k ∷ ks) zero d h p = less _ (and_parts _ _ h).0
  below_at x (k ∷ ks) (suc i) d h p = below_at x ks i d (and_parts _ _ h).1 (omega arith)

  -- in a sorted list no key is less than its predecessor
  pub neighbours : (ks : List K) → IsRising R ks → (i : ℕ) (d : K) → suc i < length ks → is_lt (R (get_or ks (suc i) d) (get_or ks i d)) ≡ false
  neighbours [] h i d p = absurd (omega arith)
  neighbours (x ∷ ks) h zero d p = ap is_lt (greater x (get_or ks 0 d) (below_at x ks 0 d (and_parts _ _ h).0 (omega arith)))
  neighbours (x ∷ ks) h (suc i) d p = neighbours ks (and_parts _ _ h).1 i d (omega arith)

  below_insert : (x : K) (ks : List K) (i : ℕ) (k : K) → R x k ≡ Less → is_below_all R x ks ≡ true → is_below_all R x (insert ks i k) ≡ true
  below_insert x ks zero k p h = and_from _ _ (ap is_lt p) h
  below_insert x [] (suc i) k p h = and_from _ _ (ap is_lt p) refl
  below_insert x (y ∷ ks) (suc i) k p h = and_from _ _ (and_parts _ _ h).0 (below_insert x ks i k p (and_parts _ _ h).1)

  -- a key inserted after all smaller and before all greater ones leaves the list sorted
  pub rising_insert : (ks : List K) (i : ℕ) (k : K) → IsRising R ks → i ≤ length ks → AllWithin (λ y. R y k ≡ Less) ks 0 i → AllWithin (λ y. R y k ≡ Greater) ks i (length ks) → IsRising R (insert ks i k)
  rising_insert [] zero k h p low high = refl
  rising_insert [] (suc i) k h p low high = absurd (omega arith)
  rising_insert (x ∷ ks) zero k h p low high =
      let k_first : R k x ≡ Less = smaller x k (high 0 x (omega arith) (omega arith)) in
      and_from _ _ (and_from _ _ (ap is_lt k_first) (below_more o k x ks k_first (and_parts _ _ h).0)) h
  rising_insert (x ∷ ks) (suc i) k h p low high =
      and_from _ _ (below_insert x ks i k (low 0 x (omega arith) (omega arith)) (and_parts _ _ h).0)
      (rising_insert ks i k (and_parts _ _ h).1 (omega arith) (λ j d a b. low (suc j) d (omega arith) (omega arith)) (λ j d a b. high (suc j) d (omega arith) (omega arith)))

  module _ (exact : CmpEqualImpliesEq R) where
    -- a property of each element of a list holds of each key in the list
    pub each_key : (P : K → Type 0) (ks : List K) → All P ks → (q : K) → has_key R ks q ≡ true → P q
    each_key P [] all q e = absurd (false≢true e)
    each_key P (k ∷ ks) all q e = elim (or_cases (eq_by_cmp R q k) (has_key R ks q) e) [
      | inl tied ↦ subst P (sym (exact q k (tie _ tied))) (All-head P k ks all)
      | inr rest ↦ each_key P ks (All-tail P k ks all) q rest
    ]

    -- a property that a loop has shown of all elements holds of each key of the set
    pub each_member : (ks : List K) (s : set.FinSet R) → set.from_list ks ≡ s → (P : K → Type 0) → (i : ℕ) → length ks ≤ i → All P (take i ks) → (q : K) → set.contains s q ≡ true → P q
    each_member ks s is P i p all q e = each_key P ks (subst (All P) (take_all i ks p) all) q (has_is ks s is q ∙ e)

    -- a list with one more key represents the set with that key inserted
    pub one_inserted : (ks ls : List K) (k : K) → ((q : K) → has_key R ls q ≡ (eq_by_cmp R q k || has_key R ks q)) → set.from_list {R = R} ls ≡ set.insert (set.from_list ks) k
    one_inserted ks ls k h = set.same_set o exact _ _ (λ q.
        set.contains-from_list o ls q ∙ h q ∙ ap (λ b. eq_by_cmp R q k || b) (sym (set.contains-from_list o ks q)) ∙ sym (set.contains-insert o (set.from_list ks) k q))

-- origins equal by `==` are equal
pub equal_origins : (a b : Origin) → (nat_eq a.node.0 b.node.0 && nat_eq a.inc b.inc) ≡ true → a ≡ b
equal_origins a b e =
    let parts = and_parts _ _ e in
    let nodes = eqb-true a.node.0 b.node.0 parts.0 in
    let incs = eqb-true a.inc b.inc parts.1 in
    λ i. record { node = record { 0 = nodes i }; inc = incs i }
