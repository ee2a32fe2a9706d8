-- Laws of the definitions in `WishesValue`.
use Rattle.std.specs.Prelude.{◌≡◌, true, ◌&&◌, ◌||◌, refl}
use Rattle.std.proofs.Common.{sym, ◌∙◌, inl, inr}
use Rattle.std.specs.FinSet as set
use Rattle.std.proofs.lemmas.Bool.{false≢true, or_cases}
use Rattle.dac_origins.specs.declared.dot.Dot.{Dot}
use Rattle.dac_origins.specs.Dots.{dot_cmp}
use Rattle.dac_origins.specs.laws.Dots.{dots_total}
use Rattle.dac_lattice.specs.Lattices.{IsLattice}
use Rattle.dac_store.specs.laws.Stores.{subset_left, subset_right, subset_union, subset_empty, same_context, both_ways}
use Rattle.dac_store.specs.laws.DotSets.{from_either, held_left, held_right, held_joined}
use Rattle.dac_wishes.specs.Writes.{Write, write_cmp}
use Rattle.dac_wishes.specs.laws.Writes.{writes_total, exact_writes}
use Rattle.dac_wishes.specs.WishesValue.{AreWishes, AreWishesBelow, WishesValue, join_wishes, may_stand, no_wishes}

-- ---- the parts of a join

pub known-join : (x y : WishesValue) → (join_wishes x y).known ≡ set.union x.known y.known
unfolding join_wishes
known-join x y = refl

pub standing-join : (x y : WishesValue) (w : Write) → set.contains (join_wishes x y).standing w ≡ ((set.contains x.standing w && may_stand y w) || (set.contains y.standing w && may_stand x w))
unfolding join_wishes
standing-join x y w =
    set.contains-union writes_total (set.retain x.standing (may_stand y)) (set.retain y.standing (may_stand x)) w
    ∙ (λ i. set.contains-retain x.standing (may_stand y) w (λ u e j. may_stand y (sym (exact_writes w u e) j)) i || set.contains-retain y.standing (may_stand x) w (λ u e j. may_stand x (sym (exact_writes w u e) j)) i)

-- two values with equal parts are equal
pub same_wishes : (x y : WishesValue) → x.known ≡ y.known → ((w : Write) → set.contains x.standing w ≡ set.contains y.standing w) → x ≡ y
same_wishes x y known h =
    let standing = set.same_set writes_total exact_writes x.standing y.standing h in
    λ i. record { known = known i; standing = standing i }

-- ---- the laws

one_value : (x y : WishesValue) → AreWishes x → AreWishes y → AreWishesBelow x y → AreWishesBelow y x → x ≡ y
one_value x y u v p q = same_wishes x y (same_context x.known y.known p.known q.known) (λ w.
    both_ways _ _ (λ h. q.standing w h (p.known w.dot (u w h))) (λ h. p.standing w h (q.known w.dot (v w h))))

joined_wishes : (x y : WishesValue) → AreWishes x → AreWishes y → AreWishes (join_wishes x y)
unfolding join_wishes
joined_wishes x y u v w h = elim (or_cases (set.contains x.standing w) (set.contains y.standing w) (from_either (set.contains x.standing w) (set.contains y.standing w) (may_stand y w) (may_stand x w) (sym (standing-join x y w) ∙ h))) [
  | inl a ↦ subset_left x.known y.known w.dot (u w a)
  | inr b ↦ subset_right x.known y.known w.dot (v w b)
]

above_left : (x y : WishesValue) → AreWishesBelow x (join_wishes x y)
unfolding join_wishes
above_left x y = record {
  known = subset_left x.known y.known;
  standing = λ w h k. held_left (set.contains x.standing w) (set.contains x.known w.dot) (set.contains y.standing w) (set.contains y.known w.dot) (sym (standing-join x y w) ∙ h) k;
}

above_right : (x y : WishesValue) → AreWishesBelow y (join_wishes x y)
unfolding join_wishes
above_right x y = record {
  known = subset_right x.known y.known;
  standing = λ w h k. held_right (set.contains x.standing w) (set.contains x.known w.dot) (set.contains y.standing w) (set.contains y.known w.dot) (sym (standing-join x y w) ∙ h) k;
}

below_both : (x y z : WishesValue) → AreWishesBelow x z → AreWishesBelow y z → AreWishesBelow (join_wishes x y) z
unfolding join_wishes
below_both x y z p q = record {
  known = subset_union x.known y.known z.known p.known q.known;
  standing = λ w h k. standing-join x y w ∙ held_joined (set.contains x.standing w) (set.contains x.known w.dot) (set.contains y.standing w) (set.contains y.known w.dot) (p.standing w h) (q.standing w h) (known_either w.dot k);
}
  where
    known_either : (d : Dot) → set.contains (set.union x.known y.known) d ≡ true → (set.contains x.known d || set.contains y.known d) ≡ true
    known_either d k = sym (set.contains-union dots_total x.known y.known d) ∙ k

pub wishes_laws : IsLattice AreWishes AreWishesBelow join_wishes
wishes_laws = record {
  refl = λ x _. record { known = λ d h. h; standing = λ w h k. h };
  trans = λ x y z _ _ _ p q. record { known = λ d h. q.known d (p.known d h); standing = λ w h k. p.standing w (q.standing w h (p.known w.dot k)) k };
  antisymm = one_value;
  closed = joined_wishes;
  left = λ x y _ _. above_left x y;
  right = λ x y _ _. above_right x y;
  least = λ x y z _ _ _ p q. below_both x y z p q;
}

pub no_wishes_value : AreWishes no_wishes
no_wishes_value w h = absurd (false≢true (sym (set.contains-empty write_cmp w) ∙ h))

pub no_wishes_least : (x : WishesValue) → AreWishesBelow no_wishes x
no_wishes_least x = record {
  known = subset_empty x.known;
  standing = λ w h k. absurd (false≢true (sym (set.contains-empty dot_cmp w.dot) ∙ k));
}
