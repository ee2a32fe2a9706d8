-- Consequences of the lattice laws: joins with comparable values, and joins in any order.
use Rattle.std.specs.Prelude.{◌≡◌}
use Rattle.dac_lattice.specs.Lattices.{IsLattice}

module _ {T : Type 0} {is_value : T → Type 0} {below : T → T → Type 0} {join : T → T → T} (laws : IsLattice is_value below join) where
  -- the join with a lower value changes nothing
  pub join_below : (x y : T) → is_value x → is_value y → below x y → join y x ≡ y
  join_below x y u v p = laws.antisymm _ _ (laws.closed y x v u) v (laws.least y x y v u v (laws.refl y v) p) (laws.left y x v u)

  -- the join with a greater value is that value
  pub join_above : (x y : T) → is_value x → is_value y → below x y → join x y ≡ y
  join_above x y u v p = laws.antisymm _ _ (laws.closed x y u v) v (laws.least x y y u v v p (laws.refl y v)) (laws.right x y u v)

  pub join_idem : (x : T) → is_value x → join x x ≡ x
  join_idem x u = join_below x x u u (laws.refl x u)

  pub join_comm : (x y : T) → is_value x → is_value y → join x y ≡ join y x
  join_comm x y u v =
      let xy = laws.closed x y u v in
      let yx = laws.closed y x v u in
      laws.antisymm _ _ xy yx
      (laws.least x y (join y x) u v yx (laws.right y x v u) (laws.left y x v u))
      (laws.least y x (join x y) v u xy (laws.right x y u v) (laws.left x y u v))

  -- joins are associative
  pub join_assoc : (x y z : T) → is_value x → is_value y → is_value z → join x (join y z) ≡ join (join x y) z
  join_assoc x y z a b c =
      let xy = laws.closed x y a b in
      let yz = laws.closed y z b c in
      let one = laws.closed x (join y z) a yz in
      let two = laws.closed (join x y) z xy c in
      laws.antisymm _ _ one two
      (laws.least x (join y z) (join (join x y) z) a yz two
      (laws.trans _ _ _ a xy two (laws.left x y a b) (laws.left (join x y) z xy c))
      (laws.least y z _ b c two (laws.trans _ _ _ b xy two (laws.right x y a b) (laws.left (join x y) z xy c)) (laws.right (join x y) z xy c)))
      (laws.least (join x y) z (join x (join y z)) xy c one
      (laws.least x y _ a b one (laws.left x (join y z) a yz) (laws.trans _ _ _ b yz one (laws.left y z b c) (laws.right x (join y z) a yz)))
      (laws.trans _ _ _ c yz one (laws.right y z b c) (laws.right x (join y z) a yz)))

  -- the join with the least value changes nothing
  pub join_bottom : (bottom : T) → is_value bottom → ((x : T) → is_value x → below bottom x) → (x : T) → is_value x → join x bottom ≡ x
  join_bottom bottom v least x u = join_below bottom x v u (least x u)
