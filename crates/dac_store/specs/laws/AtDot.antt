-- Laws of the definitions in `AtDot`.
use Rattle.std.specs.Prelude.{◌≡◌, Bool, true, false, ◌||◌, Option, None, Some, is_some, refl}
use Rattle.std.proofs.Common.{sym, ◌∙◌, ap}
use Rattle.std.proofs.lemmas.Bool.{false≢true}
use Rattle.dac_lattice.specs.Lattices.{IsLattice, IsOptionOf}
use Rattle.dac_lattice.specs.laws.Joins.{join_idem}
use Rattle.dac_store.specs.AtDot.{StandsBelow, Under, join_at}

-- each context decides only where the other side has a value
pub at_alike : {V : Type 0} (join : V → V → V) (c d b e : Bool) (v w : Option V) → (is_some w ≡ true → c ≡ b) → (is_some v ≡ true → d ≡ e) → join_at join c d v w ≡ join_at join b e v w
at_alike join c d b e None None f g = refl
at_alike join c d b e (Some v) None f g = ap (λ z. join_at join c z (Some v) None) (g refl)
at_alike join c d b e None (Some w) f g = ap (λ z. join_at join z d None (Some w)) (f refl)
at_alike join c d b e (Some v) (Some w) f g = refl

-- a value on one side alone stays if the other's context lacks its dot
pub at_alone : {V : Type 0} (join : V → V → V) (c d : Bool) (v : Option V) → (is_some v ≡ true → d ≡ false) → join_at join c d v None ≡ v
at_alone join c d None h = refl
at_alone join c true (Some v) h = absurd (false≢true (sym (h refl)))
at_alone join c false (Some v) h = refl

pub at_alone_right : {V : Type 0} (join : V → V → V) (c d : Bool) (v : Option V) → (is_some v ≡ true → d ≡ false) → join_at join d c None v ≡ v
at_alone_right join c d None h = refl
at_alone_right join c true (Some v) h = absurd (false≢true (sym (h refl)))
at_alone_right join c false (Some v) h = refl

-- if the context lacks the dot, the order requires nothing of the value there
pub at_unheard : {V : Type 0} (below : V → V → Type 0) (c : Bool) (v w : Option V) → (is_some w ≡ true → c ≡ false) → c ≡ true → StandsBelow below v w
at_unheard below c v None h e = tt
at_unheard below c v (Some w) h e = absurd (false≢true (sym (h refl) ∙ e))

-- ---- the laws of a dot store, at one dot

module _ {V : Type 0} {is_value : V → Type 0} {below : V → V → Type 0} {join : V → V → V} (laws : IsLattice is_value below join) where
  pub at_refl : (v : Option V) → IsOptionOf is_value v → StandsBelow below v v
  at_refl None u = tt
  at_refl (Some v) u = laws.refl v u

  -- the join of a value with itself is that value
  pub at_again : (c d : Bool) (v : Option V) → IsOptionOf is_value v → join_at join c d v v ≡ v
  at_again c d None u = refl
  at_again c d (Some v) u = ap (λ x. Some x) (join_idem laws v u)

  pub at_trans : (v w x : Option V) → IsOptionOf is_value v → IsOptionOf is_value w → IsOptionOf is_value x → StandsBelow below v w → StandsBelow below w x → StandsBelow below v x
  at_trans v w None a b c p q = tt
  at_trans None None (Some x) a b c p q = q
  at_trans None (Some w) (Some x) a b c p q = absurd p
  at_trans (Some v) None (Some x) a b c p q = absurd q
  at_trans (Some v) (Some w) (Some x) a b c p q = laws.trans v w x a b c p q

  pub at_antisymm : (c : Bool) (v w : Option V) → Under is_value c v → Under is_value c w → (c ≡ true → StandsBelow below v w) → (c ≡ true → StandsBelow below w v) → v ≡ w
  at_antisymm c None None a b p q = refl
  at_antisymm c None (Some w) a b p q = absurd (p (b.1 refl))
  at_antisymm c (Some v) None a b p q = absurd (q (a.1 refl))
  at_antisymm c (Some v) (Some w) a b p q = let here = a.1 refl in ap (λ x. Some x) (laws.antisymm v w a.0 b.0 (p here) (q here))

  pub at_closed : (c d : Bool) (v w : Option V) → IsOptionOf is_value v → IsOptionOf is_value w → IsOptionOf is_value (join_at join c d v w)
  at_closed c d None None a b = tt
  at_closed c true (Some v) None a b = tt
  at_closed c false (Some v) None a b = a
  at_closed true d None (Some w) a b = tt
  at_closed false d None (Some w) a b = b
  at_closed c d (Some v) (Some w) a b = laws.closed v w a b

  pub at_comes : (c d : Bool) (v w : Option V) → is_some (join_at join c d v w) ≡ true → (is_some v || is_some w) ≡ true
  at_comes c d None None e = e
  at_comes c d (Some v) w e = refl
  at_comes c d None (Some w) e = refl

  pub at_left : (c d : Bool) (v w : Option V) → Under is_value c v → Under is_value d w → c ≡ true → StandsBelow below v (join_at join c d v w)
  at_left c d None None a b h = tt
  at_left c true (Some v) None a b h = tt
  at_left c false (Some v) None a b h = laws.refl v a.0
  at_left true d None (Some w) a b h = tt
  at_left false d None (Some w) a b h = absurd (false≢true h)
  at_left c d (Some v) (Some w) a b h = laws.left v w a.0 b.0

  pub at_right : (c d : Bool) (v w : Option V) → Under is_value c v → Under is_value d w → d ≡ true → StandsBelow below w (join_at join c d v w)
  at_right c d None None a b h = tt
  at_right c true (Some v) None a b h = tt
  at_right c false (Some v) None a b h = absurd (false≢true h)
  at_right true d None (Some w) a b h = tt
  at_right false d None (Some w) a b h = laws.refl w b.0
  at_right c d (Some v) (Some w) a b h = laws.right v w a.0 b.0

  pub at_least : (c d : Bool) (v w x : Option V) → Under is_value c v → Under is_value d w → IsOptionOf is_value x → (c ≡ true → StandsBelow below v x) → (d ≡ true → StandsBelow below w x) → (c || d) ≡ true → StandsBelow below (join_at join c d v w) x
  at_least c d v w None a b u p q h = tt
  at_least true d None w (Some x) a b u p q h = absurd (p refl)
  at_least c true v None (Some x) a b u p q h = absurd (q refl)
  at_least false false v w (Some x) a b u p q h = absurd (false≢true h)
  at_least true false (Some v) None (Some x) a b u p q h = p refl
  at_least false true None (Some w) (Some x) a b u p q h = q refl
  at_least true true (Some v) (Some w) (Some x) a b u p q h = laws.least v w x a.0 b.0 u (p refl) (q refl)
  at_least true false (Some v) (Some w) (Some x) a b u p q h = absurd (false≢true (b.1 refl))
  at_least false true (Some v) (Some w) (Some x) a b u p q h = absurd (false≢true (a.1 refl))
