-- The pairs of an anti-entropy round: every two running nodes, in order.
use Rattle.std.proofs.Common.{◌≡◌, ℕ, zero, suc, ◌+◌, ◌<◌, ◌≤◌, Bool, true, false, cond, List, [], ◌∷◌, ◌++◌, map, refl, sym, ap, subst, ◌∙◌, arith, inl, inr, eqb}
use Rattle.dac_play.proofs.Common.{◌≢◌, not, false≢true, eqb-true, NodeId, pairs_of, pairs, IsListed, TellsEachOther}
use Rattle.std.specs.Prelude.{◌⊎◌, filter, flat_map, ◌==◌}
use Rattle.std.specs.List.{AllByRecursion, range_with_len}
use Rattle.std.proofs.lemmas.Bool.{eqb-false, eq-eqb}
use Rattle.dac_play.specs.Pairs.{IsOrdered, ComesBefore}

-- ---- lists
In-front : {X : Type 0} (x : X) (xs ys : List X) → IsListed x xs → IsListed x (xs ++ ys)
In-front x [] ys h = absurd h
In-front x (y ∷ xs) ys (inl e) = inl e
In-front x (y ∷ xs) ys (inr h) = inr (In-front x xs ys h)

In-back : {X : Type 0} (x : X) (xs ys : List X) → IsListed x ys → IsListed x (xs ++ ys)
In-back x [] ys h = h
In-back x (y ∷ xs) ys h = inr (In-back x xs ys h)

In-append : {X : Type 0} (x : X) (xs ys : List X) → IsListed x (xs ++ ys) → IsListed x xs ⊎ IsListed x ys
In-append x [] ys h = inr h
In-append x (y ∷ xs) ys (inl e) = inl (inl e)
In-append x (y ∷ xs) ys (inr h) = elim (In-append x xs ys h) [ inl a ↦ inl (inr a) | inr b ↦ inr b ]

-- a property of all items is one of each
of_one : {X : Type 0} (P : X → Type 0) (x : X) (xs : List X) → AllByRecursion P xs → IsListed x xs → P x
of_one P x [] all h = absurd h
of_one P x (y ∷ xs) all (inl e) = subst P (sym e) all.0
of_one P x (y ∷ xs) all (inr h) = of_one P x xs all.1 h

of_each : {X : Type 0} (P : X → Type 0) (xs : List X) → ((x : X) → IsListed x xs → P x) → AllByRecursion P xs
of_each P [] f = tt
of_each P (x ∷ xs) f = (f x (inl refl), of_each P xs (λ y h. f y (inr h)))

IsOrdered-append : {X : Type 0} (Before : X → X → Type 0) (xs ys : List X) → IsOrdered Before xs → IsOrdered Before ys → ((x y : X) → IsListed x xs → IsListed y ys → Before x y) → IsOrdered Before (xs ++ ys)
IsOrdered-append Before [] ys o p f = p
IsOrdered-append Before (x ∷ xs) ys o p f = (
  of_each (Before x) (xs ++ ys) (λ y h. elim (In-append y xs ys h) [ inl a ↦ of_one (Before x) y xs o.0 a | inr b ↦ f x y (inl refl) b ]),
  IsOrdered-append Before xs ys o.1 p (λ z y h k. f z y (inr h) k),
)

-- ---- filtered lists
passes_cons : {X : Type 0} (test : X → Bool) (b : Bool) (x y : X) (xs : List X) → test x ≡ b → (IsListed y (filter test xs) → IsListed y xs × (test y ≡ true)) → IsListed y (cond b (x ∷ filter test xs) (filter test xs)) → IsListed y (x ∷ xs) × (test y ≡ true)
passes_cons test true x y xs is rest (inl e) = (inl e, ap test e ∙ is)
passes_cons test true x y xs is rest (inr h) = let r = rest h in (inr r.0, r.1)
passes_cons test false x y xs is rest h = let r = rest h in (inr r.0, r.1)

passes : {X : Type 0} (test : X → Bool) (x : X) (xs : List X) → IsListed x (filter test xs) → IsListed x xs × (test x ≡ true)
passes test x [] h = absurd h
passes test x (y ∷ xs) h = passes_cons test (test y) y x xs refl (passes test x xs) h

kept_here : {X : Type 0} (b : Bool) (x : X) (xs ys : List X) → b ≡ true → IsListed x (cond b (x ∷ xs) ys)
kept_here true x xs ys is = inl refl
kept_here false x xs ys is = absurd (false≢true is)

kept_behind : {X : Type 0} (b : Bool) (x y : X) (xs : List X) → IsListed x xs → IsListed x (cond b (y ∷ xs) xs)
kept_behind true x y xs h = inr h
kept_behind false x y xs h = h

kept : {X : Type 0} (test : X → Bool) (x : X) (xs : List X) → IsListed x xs → test x ≡ true → IsListed x (filter test xs)
kept test x [] h is = absurd h
kept test x (y ∷ xs) (inl e) is = subst (λ z. IsListed x (cond (test y) (z ∷ filter test xs) (filter test xs))) e (kept_here (test y) x (filter test xs) (filter test xs) (ap test (sym e) ∙ is))
kept test x (y ∷ xs) (inr h) is = kept_behind (test y) x y (filter test xs) (kept test x xs h is)

ordered_cons : {X : Type 0} (Before : X → X → Type 0) (b : Bool) (x : X) (xs : List X) → AllByRecursion (Before x) xs → IsOrdered Before xs → IsOrdered Before (cond b (x ∷ xs) xs)
ordered_cons Before true x xs all o = (all, o)
ordered_cons Before false x xs all o = o

IsOrdered-filter : {X : Type 0} (Before : X → X → Type 0) (test : X → Bool) (xs : List X) → IsOrdered Before xs → IsOrdered Before (filter test xs)
IsOrdered-filter Before test [] o = tt
IsOrdered-filter Before test (x ∷ xs) o =
    ordered_cons Before (test x) x (filter test xs) (of_each (Before x) (filter test xs) (λ y h. of_one (Before x) y xs o.0 (passes test y xs h).0)) (IsOrdered-filter Before test xs o.1)

-- ---- the pairs of one node
same_node : (n m : NodeId) → n.0 ≡ m.0 → n ≡ m
same_node n m e = ap (λ (k : ℕ). record { 0 = k }) e

other_by : (from to : NodeId) (b : Bool) → eqb to.0 from.0 ≡ b → from ≢ to → not b ≡ true
other_by from to true e apart = absurd (apart (sym (same_node to from (eqb-true to.0 from.0 e))))
other_by from to false e apart = refl

is_other : (from to : NodeId) → from ≢ to → not (to.0 == from.0) ≡ true
is_other from to apart = other_by from to (eqb to.0 from.0) refl apart

other_is : (from to : NodeId) → not (to.0 == from.0) ≡ true → from ≢ to
other_is from to other same = false≢true (ap not (sym (eq-eqb from.0 from.0 refl)) ∙ ap (λ (n : NodeId). not (n.0 == from.0)) same ∙ other)

paired : (from f t : NodeId) (tos : List NodeId) → IsListed {X = NodeId × NodeId} (f, t) (map (λ to. (from, to)) tos) → (f ≡ from) × IsListed t tos
paired from f t [] h = absurd h
paired from f t (to ∷ tos) (inl e) = (ap (λ (p : NodeId × NodeId). p.0) e, inl (ap (λ (p : NodeId × NodeId). p.1) e))
paired from f t (to ∷ tos) (inr h) = let p = paired from f t tos h in (p.0, inr p.1)

pairing : (from t : NodeId) (tos : List NodeId) → IsListed t tos → IsListed {X = NodeId × NodeId} (from, t) (map (λ to. (from, to)) tos)
pairing from t [] h = absurd h
pairing from t (to ∷ tos) (inl e) = inl (ap (λ (n : NodeId). (from, n)) e)
pairing from t (to ∷ tos) (inr h) = inr (pairing from t tos h)

-- one node's number is below another's
abbrev IsLess : NodeId → NodeId → Type 0
IsLess n m = n.0 < m.0

paired_ordered : (from : NodeId) (tos : List NodeId) → IsOrdered IsLess tos → IsOrdered ComesBefore (map (λ to. (from, to)) tos)
paired_ordered from [] o = tt
paired_ordered from (to ∷ tos) o =
    (of_each (ComesBefore (from, to)) (map (λ t. (from, t)) tos) (λ p h. let q = paired from p.0 p.1 tos h in inr (sym q.0, of_one (IsLess to) p.1 tos o.0 q.1)), paired_ordered from tos o.1)

-- ---- all pairs
module _ (nodes : List NodeId) where
  of_pairs : (f t : NodeId) (froms : List NodeId) → IsListed (f, t) (flat_map (pairs_of nodes) froms) → IsListed f froms × (IsListed t nodes × (f ≢ t))
  of_pairs f t [] h = absurd h
  of_pairs f t (from ∷ froms) h =
      elim (In-append (f, t) (pairs_of nodes from) (flat_map (pairs_of nodes) froms) h) [
        | inl a ↦ let p = paired from f t (filter (λ to. not (to.0 == from.0)) nodes) a in let q = passes (λ to. not (to.0 == from.0)) t nodes p.1 in (inl p.0, (q.0, subst (λ n. n ≢ t) (sym p.0) (other_is from t q.1)))
        | inr b ↦ let p = of_pairs f t froms b in (inr p.0, p.1)
      ]

  in_pairs : (f t : NodeId) (froms : List NodeId) → IsListed f froms → IsListed t nodes → f ≢ t → IsListed (f, t) (flat_map (pairs_of nodes) froms)
  in_pairs f t [] h k apart = absurd h
  in_pairs f t (from ∷ froms) (inl e) k apart =
      In-front (f, t) (pairs_of nodes from) (flat_map (pairs_of nodes) froms)
      (subst (λ n. IsListed (f, t) (pairs_of nodes n)) e (pairing f t (filter (λ to. not (to.0 == f.0)) nodes) (kept (λ to. not (to.0 == f.0)) t nodes k (is_other f t apart))))
  in_pairs f t (from ∷ froms) (inr h) k apart = In-back (f, t) (pairs_of nodes from) (flat_map (pairs_of nodes) froms) (in_pairs f t froms h k apart)

  pairs_ordered : (froms : List NodeId) → IsOrdered IsLess nodes → IsOrdered IsLess froms → IsOrdered ComesBefore (flat_map (pairs_of nodes) froms)
  pairs_ordered [] all o = tt
  pairs_ordered (from ∷ froms) all o =
      IsOrdered-append ComesBefore (pairs_of nodes from) (flat_map (pairs_of nodes) froms)
      (paired_ordered from (filter (λ to. not (to.0 == from.0)) nodes) (IsOrdered-filter IsLess (λ to. not (to.0 == from.0)) nodes all))
      (pairs_ordered froms all o.1)
      (λ p q h k.
      let one = paired from p.0 p.1 (filter (λ to. not (to.0 == from.0)) nodes) h in
      let later = of_one (IsLess from) q.0 froms o.0 (of_pairs q.0 q.1 froms k).0 in
      inl (subst (λ (n : NodeId). n.0 < q.0.0) (sym one.0) later))

-- ---- running nodes by number
module _ (runs : NodeId → Bool) where
  abbrev numbers_from : ℕ → ℕ → List NodeId
  numbers_from a n = map (λ (k : ℕ). record { 0 = k }) (range_with_len a n)

  in_numbers : (a n : ℕ) (node : NodeId) → IsListed node (numbers_from a n) → (a ≤ node.0) × (node.0 < a + n)
  in_numbers a zero node h = absurd h
  in_numbers a (suc n) node (inl e) = let at = ap (λ (m : NodeId). m.0) e in (omega (arith, at), omega (arith, at))
  in_numbers a (suc n) node (inr h) = let p = in_numbers (a + 1) n node h in (omega (arith, p.0), omega (arith, p.1))

  at_or_behind : (a n : ℕ) (node : NodeId) (b : Bool) → eqb a node.0 ≡ b → a ≤ node.0 → (a + 1 ≤ node.0 → IsListed node (numbers_from (a + 1) n)) → IsListed node (numbers_from a (suc n))
  at_or_behind a n node true e le behind = inl (sym (same_node (record { 0 = a }) node (eqb-true a node.0 e)))
  at_or_behind a n node false e le behind = inr (behind (omega (arith, le, eqb-false a node.0 e)))

  number_in : (a n : ℕ) (node : NodeId) → a ≤ node.0 → node.0 < a + n → IsListed node (numbers_from a n)
  number_in a zero node le lt = absurd (omega (arith, le, lt))
  number_in a (suc n) node le lt = at_or_behind a n node (eqb a node.0) refl le (λ more. number_in (a + 1) n node more (omega (arith, lt)))

  numbers_ordered : (a n : ℕ) → IsOrdered IsLess (numbers_from a n)
  numbers_ordered a zero = tt
  numbers_ordered a (suc n) =
      (of_each (IsLess (record { 0 = a })) (numbers_from (a + 1) n) (λ node h. omega (arith, (in_numbers (a + 1) n node h).0)), numbers_ordered (a + 1) n)

  -- the running nodes below count ship to each other
  pub tell_each_other : (count : ℕ) → TellsEachOther (λ node. (node.0 < count) × (runs node ≡ true)) (pairs (filter runs (numbers_from 0 count)))
  tell_each_other count =
      let nodes = filter runs (numbers_from 0 count) in
      let ordered : IsOrdered IsLess nodes = IsOrdered-filter IsLess runs (numbers_from 0 count) (numbers_ordered 0 count) in
      let in_nodes : (node : NodeId) → (node.0 < count) × (runs node ≡ true) → IsListed node nodes = λ node r. kept runs node (numbers_from 0 count) (number_in 0 count node (omega arith) (omega (arith, r.0))) r.1 in
      let of_nodes : (node : NodeId) → IsListed node nodes → (node.0 < count) × (runs node ≡ true) = λ node h. let p = passes runs node (numbers_from 0 count) h in (omega (arith, (in_numbers 0 count node p.0).1), p.1) in
      record {
        each = λ f t. (
          (λ h. let p = of_pairs nodes f t nodes h in (of_nodes f p.0, (of_nodes t p.1.0, p.1.1))),
          (λ p. in_pairs nodes f t nodes (in_nodes f p.0) (in_nodes t p.1.0) p.1.1),
        );
        ordered = pairs_ordered nodes nodes ordered ordered;
      }
