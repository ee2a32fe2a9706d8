-- Laws of the definitions in `Lattices`.
use Rattle.std.specs.Prelude.{◌≡◌, Option, None, Some, refl}
use Rattle.std.proofs.Common.{sym, ap, subst, ◌∙◌, arith}
use Rattle.dac_lattice.specs.Lattices.{IsOptionOf, IsLattice, IsOptionBelow, join_options}

-- a type isomorphic to a lattice is a lattice
pub wrapped_laws : {S T : Type 0} {is_value : T → Type 0} {below : T → T → Type 0} {join : T → T → T} (out : S → T) (into : T → S)
    → ((s : S) → into (out s) ≡ s) → ((t : T) → out (into t) ≡ t) → IsLattice is_value below join
    → IsLattice (λ s. is_value (out s)) (λ x y. below (out x) (out y)) (λ x y. into (join (out x) (out y)))
wrapped_laws {is_value = is_value} {below = below} {join = join} out into back forth laws = record {
  refl = λ x. laws.refl (out x);
  trans = λ x y z. laws.trans (out x) (out y) (out z);
  antisymm = λ x y p q a b. sym (back x) ∙ ap into (laws.antisymm (out x) (out y) p q a b) ∙ back y;
  closed = λ x y p q. subst is_value (sym (forth _)) (laws.closed (out x) (out y) p q);
  left = λ x y p q. subst (below (out x)) (sym (forth _)) (laws.left (out x) (out y) p q);
  right = λ x y p q. subst (below (out y)) (sym (forth _)) (laws.right (out x) (out y) p q);
  least = λ x y z p q r a b. subst (λ j. below j (out z)) (sym (forth _)) (laws.least (out x) (out y) (out z) p q r a b);
}

-- the product of two lattices is a lattice
pub paired_laws : {A B : Type 0} {V : A → Type 0} {W : B → Type 0} {below : A → A → Type 0} {under : B → B → Type 0} {join : A → A → A} {meet : B → B → B}
    → IsLattice V below join → IsLattice W under meet
    → IsLattice {T = A × B} (λ p. V p.0 × W p.1) (λ p q. below p.0 q.0 × under p.1 q.1) (λ p q. (join p.0 q.0, meet p.1 q.1))
paired_laws a b = record {
  refl = λ x v. (a.refl x.0 v.0, b.refl x.1 v.1);
  trans = λ x y z u v w p q. (a.trans x.0 y.0 z.0 u.0 v.0 w.0 p.0 q.0, b.trans x.1 y.1 z.1 u.1 v.1 w.1 p.1 q.1);
  antisymm = λ x y u v p q. λ i. (a.antisymm x.0 y.0 u.0 v.0 p.0 q.0 i, b.antisymm x.1 y.1 u.1 v.1 p.1 q.1 i);
  closed = λ x y u v. (a.closed x.0 y.0 u.0 v.0, b.closed x.1 y.1 u.1 v.1);
  left = λ x y u v. (a.left x.0 y.0 u.0 v.0, b.left x.1 y.1 u.1 v.1);
  right = λ x y u v. (a.right x.0 y.0 u.0 v.0, b.right x.1 y.1 u.1 v.1);
  least = λ x y z u v w p q. (a.least x.0 y.0 z.0 u.0 v.0 w.0 p.0 q.0, b.least x.1 y.1 z.1 u.1 v.1 w.1 p.1 q.1);
}

module _ {T : Type 0} {is_value : T → Type 0} {below : T → T → Type 0} {join : T → T → T} (laws : IsLattice is_value below join) where
  o_refl : (x : Option T) → IsOptionOf is_value x → IsOptionBelow below x x
  o_refl None v = tt
  o_refl (Some x) v = laws.refl x v

  o_trans : (x y z : Option T) → IsOptionOf is_value x → IsOptionOf is_value y → IsOptionOf is_value z → IsOptionBelow below x y → IsOptionBelow below y z → IsOptionBelow below x z
  o_trans None y z u v w p q = tt
  o_trans (Some x) None z u v w p q = absurd p
  o_trans (Some x) (Some y) None u v w p q = absurd q
  o_trans (Some x) (Some y) (Some z) u v w p q = laws.trans x y z u v w p q

  o_antisymm : (x y : Option T) → IsOptionOf is_value x → IsOptionOf is_value y → IsOptionBelow below x y → IsOptionBelow below y x → x ≡ y
  o_antisymm x y u v p q = grind arith

  o_closed : (x y : Option T) → IsOptionOf is_value x → IsOptionOf is_value y → IsOptionOf is_value (join_options join x y)
  o_closed None y u v = v
  o_closed (Some x) None u v = u
  o_closed (Some x) (Some y) u v = laws.closed x y u v

  o_left : (x y : Option T) → IsOptionOf is_value x → IsOptionOf is_value y → IsOptionBelow below x (join_options join x y)
  o_left None y u v = tt
  o_left (Some x) None u v = laws.refl x u
  o_left (Some x) (Some y) u v = laws.left x y u v

  o_right : (x y : Option T) → IsOptionOf is_value x → IsOptionOf is_value y → IsOptionBelow below y (join_options join x y)
  o_right None None u v = tt
  o_right (Some x) None u v = tt
  o_right None (Some y) u v = laws.refl y v
  o_right (Some x) (Some y) u v = laws.right x y u v

  o_least : (x y z : Option T) → IsOptionOf is_value x → IsOptionOf is_value y → IsOptionOf is_value z → IsOptionBelow below x z → IsOptionBelow below y z → IsOptionBelow below (join_options join x y) z
  o_least None y z u v w p q = q
  o_least (Some x) None z u v w p q = p
  o_least (Some x) (Some y) None u v w p q = absurd p
  o_least (Some x) (Some y) (Some z) u v w p q = laws.least x y z u v w p q

  -- a lattice with a least value added is a lattice
  pub optional_laws : IsLattice (IsOptionOf is_value) (IsOptionBelow below) (join_options join)
  optional_laws = record { refl = o_refl; trans = o_trans; antisymm = o_antisymm; closed = o_closed; left = o_left; right = o_right; least = o_least }
