-- Consequences of the piece laws, proved once for all pieces.
use Rattle.std.specs.Prelude.{◌≡◌, ℕ, ◌-◌, ◌<◌, ◌≤◌, length, List, [], ◌∷◌, ◌++◌}
use Rattle.std.proofs.Common.{zero, suc, get_or, drop, arith, inl, inr, refl, sym, ap, subst, ◌∙◌}
use Rattle.std.proofs.Math.Seq.{drop-cons}
use Rattle.dac_origins.specs.declared.dot.Dot.{Dot}
use Rattle.dac_lattice.specs.Lattices.{IsLattice}
use Rattle.dac_lattice.specs.laws.Joins.{join_comm, join_assoc, join_bottom}
use Rattle.dac_lattice.specs.Pieces.{IsGivenIn, AreGivenIn, AreOperations, IsPiece, joined, JoinsAreTogether, OrderAndRepeatsAreNothing, DeltasAreMeanings}

-- ---- lists of operations

module _ {A : Type 0} where
  pub in_front : (o : Dot × A) (os ps : List (Dot × A)) → IsGivenIn o os → IsGivenIn o (os ++ ps)
  in_front o [] ps h = elim h [ ]
  in_front o (p ∷ os) ps (inl is) = inl is
  in_front o (p ∷ os) ps (inr rest) = inr (in_front o os ps rest)

  pub in_drop : (o : Dot × A) (os : List (Dot × A)) (i : ℕ) → IsGivenIn o (drop i os) → IsGivenIn o os
  in_drop o os zero h = h
  in_drop o [] (suc i) h = h
  in_drop o (p ∷ os) (suc i) h = inr (in_drop o os i h)

  -- a subset of operations satisfies the same conditions
  pub of_within : (fits : Dot → A → Type 0) (os ps : List (Dot × A)) → AreGivenIn os ps → AreOperations fits ps → AreOperations fits os
  of_within fits os ps within h = record {
    fit = λ o i. h.fit o (within o i);
    agree = λ o p i j. h.agree o p (within o i) (within p j);
  }

module _ {V : Type 0} {is_value : V → Type 0} {below : V → V → Type 0} {join : V → V → V} (laws : IsLattice is_value below join) where
  module _ {A : Type 0} {bottom : V} {fits : Dot → A → Type 0} {delta : Dot → A → V} {means : List (Dot × A) → V → Type 0} (value : is_value bottom) (least : (x : V) → is_value x → below bottom x) (piece : IsPiece is_value join bottom fits delta means) where
    -- a step of a loop from the last operation to the first
    pub step_at : (os : List (Dot × A)) (i : ℕ) (o : Dot × A) (v : V) → AreOperations fits os → 0 < i → i ≤ length os → o ≡ get_or os (i - 1) o
        → is_value v → means (drop i os) v → means (drop (i - 1) os) (join v (delta o.0 o.1))
    step_at os zero o v h p q is u m = absurd (omega arith)
    step_at os (suc i) o v h p q is u m =
        let less : suc i - 1 ≡ i = omega arith in
        let lt : i < length os = omega arith in
        let here : o ∷ drop (suc i) os ≡ drop (suc i - 1) os =
        ap (λ x. x ∷ drop (suc i) os) (is ∙ ap (λ k. get_or os k o) less) ∙ sym (drop-cons os i o lt) ∙ ap (λ k. drop k os) (sym less) in
        let rest = subst (AreOperations fits) (sym here) (of_within fits (drop (suc i - 1) os) os (λ p. in_drop p os (suc i - 1)) h) in
        subst (λ l. means l (join v (delta o.0 o.1))) here (piece.step (drop (suc i) os) o v u rest m)

    joined_value : (os : List (Dot × A)) → is_value (joined join bottom delta os)
    joined_value [] = value
    joined_value (o ∷ os) = laws.closed _ _ (joined_value os) (piece.delta_value o.0 o.1)

    -- the joined deltas are the meaning of the operations
    pub joined_means : DeltasAreMeanings join bottom fits delta means
    joined_means [] h = piece.start
    joined_means (o ∷ os) h = piece.step os o _ (joined_value os) h (joined_means os (of_within fits os (o ∷ os) (λ p i. inr i) h))

    -- the delta of each operation is below the joined deltas
    delta_below : (o : Dot × A) (os : List (Dot × A)) → IsGivenIn o os → below (delta o.0 o.1) (joined join bottom delta os)
    delta_below o [] h = elim h [ ]
    delta_below o (p ∷ os) (inl is) = subst (λ q. below (delta q.0 q.1) (joined join bottom delta (p ∷ os))) (sym is) (laws.right _ _ (joined_value os) (piece.delta_value p.0 p.1))
    delta_below o (p ∷ os) (inr rest) =
        laws.trans _ _ _ (piece.delta_value o.0 o.1) (joined_value os) (joined_value (p ∷ os)) (delta_below o os rest) (laws.left _ _ (joined_value os) (piece.delta_value p.0 p.1))

    joined_least : (os : List (Dot × A)) (v : V) → is_value v → ((o : Dot × A) → IsGivenIn o os → below (delta o.0 o.1) v) → below (joined join bottom delta os) v
    joined_least [] v u h = least v u
    joined_least (o ∷ os) v u h = laws.least _ _ v (joined_value os) (piece.delta_value o.0 o.1) u (joined_least os v u (λ p i. h p (inr i))) (h o (inl refl))

    joined_within : (os ps : List (Dot × A)) → AreGivenIn os ps → below (joined join bottom delta os) (joined join bottom delta ps)
    joined_within os ps within = joined_least os _ (joined_value ps) (λ o i. delta_below o ps (within o i))

    meaning_is : (os : List (Dot × A)) (v : V) → is_value v → AreOperations fits os → means os v → joined join bottom delta os ≡ v
    meaning_is os v u h m = piece.one os _ v (joined_value os) u (joined_means os h) m

    pub order_and_repeats : OrderAndRepeatsAreNothing is_value join fits means
    order_and_repeats os ps v u h there back m =
        let same = laws.antisymm _ _ (joined_value ps) (joined_value os) (joined_within ps os back) (joined_within os ps there) in
        subst (means ps) (same ∙ meaning_is os v u h m) (joined_means ps (of_within fits ps os back h))

    -- the join of a meaning with the deltas of more operations is the meaning of all
    more_joined : (os ps : List (Dot × A)) (w : V) → is_value w → AreOperations fits (os ++ ps) → means ps w → means (os ++ ps) (join w (joined join bottom delta os))
    more_joined [] ps w u h m = subst (means ps) (sym (join_bottom laws bottom value least w u)) m
    more_joined (o ∷ os) ps w u h m =
        let before = joined join bottom delta os in
        subst (means ((o ∷ os) ++ ps)) (sym (join_assoc laws w before (delta o.0 o.1) u (joined_value os) (piece.delta_value o.0 o.1)))
        (piece.step (os ++ ps) o (join w before) (laws.closed w before u (joined_value os)) h
        (more_joined os ps w u (of_within fits (os ++ ps) ((o ∷ os) ++ ps) (λ p i. inr i) h) m))

    pub together : JoinsAreTogether is_value join fits means
    together os ps v w u t h m n =
        let same = meaning_is os v u (of_within fits os (os ++ ps) (λ o. in_front o os ps) h) m in
        subst (means (os ++ ps)) (ap (λ x. join w x) same ∙ join_comm laws w v t u) (more_joined os ps w t h n)
