-- In a greater state drained incarnations stay drained, and forbidden keys stay forbidden, unless one of the votes is
-- replaced. Stated in terms of drained and permitted, without flags.
use Rattle.std.specs.Prelude.{◌≡◌, Bool, true, false, is_some}
use Rattle.std.specs.FinMap as map
use Rattle.dac_origins.specs.declared.dot.Dot.{Dot}
use Rattle.dac_origins.specs.declared.dot.Origin.{Origin}
use Rattle.dac_wishes.specs.declared.key.Key.{Key}
use Rattle.dac_wishes.specs.KeyedWrites.{keyed_write}
use Rattle.dac_wishes.specs.DrainsValue.{is_drained}
use Rattle.dac_wishes.specs.PermissionsValue.{is_permitted}
use Rattle.dac_meaning.specs.StateValue.{StateValue, IsState, IsBelow, permissions_of, drains_of}

-- each standing drain of the incarnation in x stands in y too
abbrev pub KeepsDrains : Origin → StateValue → StateValue → Type 0
KeepsDrains at x y = (d : Dot) → is_some (map.get x.drains (keyed_write at d)) ≡ true
    → is_some (map.get y.drains (keyed_write at d)) ≡ true

-- each standing permit of the key in x stands in y too
abbrev pub KeepsPermits : Key → StateValue → StateValue → Type 0
KeepsPermits key x y = (d : Dot) → is_some (map.get x.permits (keyed_write key d)) ≡ true
    → is_some (map.get y.permits (keyed_write key d)) ≡ true

-- A drained incarnation stays drained in a greater state, unless one of its drains is replaced.
abbrev pub DrainedStays : Type 0
DrainedStays = (x y : StateValue) → IsState x → IsBelow x y → (at : Origin) → KeepsDrains at x y
    → is_drained at (drains_of x) ≡ true → is_drained at (drains_of y) ≡ true

-- A key that permits forbid, whatever the default, stays forbidden in a greater state, unless one of its permits is
-- replaced.
abbrev pub ForbiddenStays : Type 0
ForbiddenStays = (x y : StateValue) → IsState x → IsBelow x y → (key : Key) → KeepsPermits key x y
    → is_permitted key true (permissions_of x) ≡ false → (default : Bool) → is_permitted key default (permissions_of y) ≡ false
