-- The join of deltas, one after another, is the least value above each of them.
use Rattle.std.specs.Prelude.{List, [], ◌∷◌, fold}
use Rattle.std.proofs.Common.{zero, suc, arith}
use Rattle.std.specs.List.{All}
use Rattle.dac_lattice.specs.Lattices.{IsLattice}
use Rattle.dac_deltas.specs.KeptDeltas.{IsJoinOf}

module _ {L : Type 0} {is_value : L → Type 0} {below : L → L → Type 0} {join : L → L → L} (laws : IsLattice is_value below join) where
  joined_value : (ds : List L) (x : L) → is_value x → All is_value ds → is_value (fold join x ds)
  joined_value [] x u h = u
  joined_value (d ∷ ds) x u h = joined_value ds (join x d) (laws.closed x d u (h 0 d (omega arith))) (λ k e p. h (suc k) e (omega arith))

  -- a value below the first is below the join
  joined_keeps : (ds : List L) (x y : L) → is_value x → is_value y → All is_value ds → below y x → below y (fold join x ds)
  joined_keeps [] x y u v h p = p
  joined_keeps (d ∷ ds) x y u v h p =
      let w = h 0 d (omega arith) in
      let next = laws.closed x d u w in
      joined_keeps ds (join x d) y next v (λ k e p. h (suc k) e (omega arith)) (laws.trans y x (join x d) v u next p (laws.left x d u w))

  joined_above : (ds : List L) (x : L) → is_value x → All is_value ds → All (λ d. below d (fold join x ds)) ds
  joined_above [] x u h k e p = absurd (omega arith)
  joined_above (d ∷ ds) x u h zero e p = let w = h 0 d (omega arith) in joined_keeps ds (join x d) d (laws.closed x d u w) w (λ k e p. h (suc k) e (omega arith)) (laws.right x d u w)
  joined_above (d ∷ ds) x u h (suc k) e p = joined_above ds (join x d) (laws.closed x d u (h 0 d (omega arith))) (λ j e p. h (suc j) e (omega arith)) k e (omega arith)

  joined_least : (ds : List L) (x y : L) → is_value x → is_value y → All is_value ds → below x y → All (λ d. below d y) ds → below (fold join x ds) y
  joined_least [] x y u v h p above = p
  joined_least (d ∷ ds) x y u v h p above =
      let w = h 0 d (omega arith) in
      joined_least ds (join x d) y (laws.closed x d u w) v (λ k e p. h (suc k) e (omega arith)) (laws.least x d y u w v p (above 0 d (omega arith))) (λ k e p. above (suc k) e (omega arith))

  module _ (bottom : L) (value : is_value bottom) (least : (x : L) → is_value x → below bottom x) where
    pub joins_are_least : (ds : List L) → All is_value ds → IsJoinOf is_value below ds (fold join bottom ds)
    joins_are_least ds h = record {
      value = joined_value ds bottom value h;
      above = joined_above ds bottom value h;
      least = λ x v above. joined_least ds bottom x value v h (least x v) above;
    }
