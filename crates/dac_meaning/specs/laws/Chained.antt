-- Laws of the definitions in `Chained`.
use Rattle.std.proofs.Common.{◌≡◌, List, [], ◌∷◌, ◌++◌, Option, sym, subst, inl, inr, ◌⊎◌}
use Rattle.std.specs.declared.cmp.Ordering.{Ordering}
use Rattle.std.specs.Cmp.{IsTotalOrder}
use Rattle.std.specs.FinMap as map
use Rattle.std.proofs.lemmas.Map.Lookups.{CmpEqualImpliesEq}
use Rattle.dac_origins.specs.declared.dot.Dot.{Dot}
use Rattle.dac_chains.specs.Greatest.{IsGreatest, IsSaid, AreGreatest, greater, alone}
use Rattle.dac_chains.specs.laws.Greatest.{get-greater, greatest_either, greatest_same, one_more, greatest_piece, greatest_laws, empty_is_least}
use Rattle.dac_lattice.specs.laws.Joins.{join_above}
use Rattle.dac_operations.specs.declared.act.Act.{Act}
use Rattle.dac_operations.specs.Operations.{Operation, operation}
use Rattle.dac_meaning.specs.Meaning.{AreOperationsOf, pairs, greatest_of}
use Rattle.dac_meaning.specs.laws.Members.{In-append_left, In-append_right, In-append_cases, in_pairs, of_pairs}
use Rattle.dac_meaning.specs.Chained.{SaysFor}

module _ {K T : Type 0} (said : Dot → Act → Option (K × T)) where
  pub of_said : (os : List Operation) (k : K) (v : T) → IsSaid said (pairs os) k v → SaysFor said os k v
  of_said os k v s = (operation s.0.0 s.0.1, (in_pairs s.0 os s.1.0, s.1.1))

  pub is_said : (os : List Operation) (k : K) (v : T) → SaysFor said os k v → IsSaid said (pairs os) k v
  is_said os k v s = ((s.0.dot, s.0.act), (of_pairs s.0 os s.1.0, s.1.1))

  -- more operations report more values
  said_within : (os ps : List Operation) → AreOperationsOf os ps → (k : K) (v : T) → IsSaid said (pairs os) k v → IsSaid said (pairs ps) k v
  said_within os ps within k v s = let o = of_said os k v s in is_said ps k v (o.0, (within o.0 o.1.0, o.1.1))

  said_either : (os ps : List Operation) (k : K) (v : T) → IsSaid said (pairs (os ++ ps)) k v → IsSaid said (pairs os) k v ⊎ IsSaid said (pairs ps) k v
  said_either os ps k v s =
      let o = of_said (os ++ ps) k v s in
      elim (In-append_cases o.0 os ps o.1.0) [
        | inl a ↦ inl (is_said os k v (o.0, (a, o.1.1)))
        | inr b ↦ inr (is_said ps k v (o.0, (b, o.1.1)))
      ]

module _ {K T : Type 0} {R : K → K → Ordering} {cmp : T → T → Ordering} (keys : IsTotalOrder R) (exact_keys : CmpEqualImpliesEq R) (o : IsTotalOrder cmp) (exact : CmpEqualImpliesEq cmp) (said : Dot → Act → Option (K × T)) where
  -- the map of greatest values has the greatest value at each key
  pub are_greatest : (os : List Operation) → AreGreatest cmp said (pairs os) (greatest_of {R = R} cmp said os)
  are_greatest [] = (greatest_piece keys exact_keys o exact said {fits = λ _ _. Unit {0}}).start
  are_greatest (p ∷ os) = one_more keys exact_keys o exact said (pairs os) (p.dot, p.act) (greatest_of cmp said os) (are_greatest os)

  -- the map of greatest values is unique
  pub one_greatest : (os : List Operation) (m n : map.FinMap R T) → AreGreatest cmp said (pairs os) m → AreGreatest cmp said (pairs os) n → m ≡ n
  one_greatest os m n g h = (greatest_piece keys exact_keys o exact said {fits = λ _ _. Unit {0}}).one (pairs os) m n tt tt g h

  pub greatest-same : (os ps : List Operation) → AreOperationsOf os ps → AreOperationsOf ps os → greatest_of {R = R} cmp said os ≡ greatest_of cmp said ps
  greatest-same os ps there back = one_greatest ps (greatest_of cmp said os) (greatest_of cmp said ps)
      (λ k. greatest_same o exact (IsSaid said (pairs os) k) (IsSaid said (pairs ps) k) (map.get (greatest_of cmp said os) k) (said_within said os ps there k) (said_within said ps os back k) (are_greatest os k))
      (are_greatest ps)

  pub greatest-append : (os ps : List Operation) → greater {R = R} cmp (greatest_of cmp said os) (greatest_of cmp said ps) ≡ greatest_of cmp said (os ++ ps)
  greatest-append os ps =
      let m = greatest_of {R = R} cmp said os in
      let n = greatest_of {R = R} cmp said ps in
      one_greatest (os ++ ps) (greater cmp m n) (greatest_of cmp said (os ++ ps))
      (λ k. greatest_same o exact (λ v. IsSaid said (pairs os) k v ⊎ IsSaid said (pairs ps) k v) (IsSaid said (pairs (os ++ ps)) k) (map.get (greater cmp m n) k)
      (λ v s. elim s [
        | inl a ↦ said_within said os (os ++ ps) (λ p h. In-append_left p os ps h) k v a
        | inr b ↦ said_within said ps (os ++ ps) (λ p h. In-append_right p os ps h) k v b
      ])
      (said_either said os ps k)
      (subst (IsGreatest cmp (λ v. IsSaid said (pairs os) k v ⊎ IsSaid said (pairs ps) k v)) (sym (get-greater keys exact_keys cmp m n k))
      (greatest_either o exact (IsSaid said (pairs os) k) (IsSaid said (pairs ps) k) (map.get m k) (map.get n k) (are_greatest os k) (are_greatest ps k))))
      (are_greatest (os ++ ps))

  -- the map of one operation is its report
  pub greatest-one : (p : Operation) → alone {R = R} (said p.dot p.act) ≡ greatest_of cmp said (p ∷ [])
  greatest-one p = sym (join_above (greatest_laws keys exact_keys o exact) map.empty (alone (said p.dot p.act)) tt tt (empty_is_least keys exact_keys o exact (alone (said p.dot p.act))))
