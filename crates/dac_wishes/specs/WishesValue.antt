-- Start wishes: the standing ones, paired with the known dots; equal parts make equal values.
use Rattle.std.specs.Prelude.{◌≡◌, Bool, true, not, ◌||◌, refl}
use Rattle.std.specs.List.{list_any}
use Rattle.std.specs.Coded.{Coded, code_by, coded×}
use Rattle.std.specs.FinSet as set
use Rattle.dac_origins.specs.declared.dot.Dot.{Dot}
use Rattle.dac_origins.specs.Dots.{Dots, IsSubset, coded_dot}
use Rattle.dac_wishes.specs.declared.key.Key.{Key}
use Rattle.dac_wishes.specs.Keys.{same_key}
use Rattle.dac_wishes.specs.Writes.{Write, Writes, write, coded_write}

pub record WishesValue : Type 0 where
  -- the dots of the operations, and those that they replace
  pub known : Dots
  -- the start wishes that no operation replaces
  pub standing : Writes

abbrev pub coded_wishes : Coded WishesValue
coded_wishes = code_by (Dots × Writes) (coded× (set.code coded_dot) (set.code coded_write)) (λ v. (v.known, v.standing))
    (λ p. record { known = p.0; standing = p.1 }) (λ _. refl)

-- standing wishes are known, in forged values too
abbrev pub AreWishes : WishesValue → Type 0
AreWishes v = (w : Write) → set.contains v.standing w ≡ true → set.contains v.known w.dot ≡ true

-- x is below y: y knows all that x knows, and each wish that x knows and that doesn't stand in x doesn't stand in y.
-- Stated without join.
pub record AreWishesBelow (x y : WishesValue) : Type 0 where
  pub known : IsSubset x.known y.known
  -- a wish that stands in y and that x knows stands in x
  pub standing : (w : Write) → set.contains y.standing w ≡ true → set.contains x.known w.dot ≡ true
      → set.contains x.standing w ≡ true

-- nothing is known
abbrev pub no_wishes : WishesValue
no_wishes = record { known = set.empty; standing = set.empty }

-- the wish stays in a join with v: it stands in v, or v doesn't know its dot
abbrev pub may_stand : WishesValue → Write → Bool
may_stand v w = set.contains v.standing w || not (set.contains v.known w.dot)

-- the wishes of each side that stay in a join with the other
unfoldable pub join_wishes : WishesValue → WishesValue → WishesValue
join_wishes x y = record {
  known = set.union x.known y.known;
  standing = set.union (set.retain x.standing (may_stand y)) (set.retain y.standing (may_stand x));
}

-- a start of the key stands
abbrev pub is_wished : Key → WishesValue → Bool
is_wished key v = list_any (λ (w : Write). same_key w.key key) (set.items v.standing)

-- a start of the key stands; d is its dot
abbrev pub SomeStands : Key → WishesValue → Type 0
SomeStands key v = (d : Dot) × (set.contains v.standing (write key d) ≡ true)
