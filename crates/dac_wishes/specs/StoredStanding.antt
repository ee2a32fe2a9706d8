-- The stored form of what stands: three stores, and one context with the dots of all.
use Rattle.std.specs.Prelude.{◌≡◌, List, Option, unwrap_or}
use Rattle.dac_origins.specs.Dots.{Dots}
use Rattle.dac_origins.specs.declared.dot.Origin.{Origin}
use Rattle.dac_wishes.specs.declared.key.Key.{Key}
use Rattle.dac_wishes.specs.StandingValue.{StandingValue, standing_of}
use Rattle.dac_wishes.specs.StoredPermits.{AreStoredFlags, DotFlags, permissions_of}
use Rattle.dac_wishes.specs.StoredWishes.{AreStoredDots, wishes_of}
use Rattle.dac_wishes.specs.StoredDrains.{AreStoredDrains, drains_of}

abbrev pub stored_standing : Dots → List (Key × DotFlags) → List (Key × Dots) → List (Origin × DotFlags) → StandingValue
stored_standing known permits starts drains = standing_of
    (permissions_of (record { store = permits; context = known }))
    (wishes_of (record { store = starts; context = known }))
    (drains_of (record { store = drains; context = known }))

-- each store is sorted, and its dots are known
pub record AreStoredBeside (known : Dots) (permitted : List (Key × DotFlags)) (started : List (Key × Dots)) (drained : List (Origin × DotFlags)) : Type 0 where
  pub permits : AreStoredFlags (record { store = permitted; context = known })
  pub starts : AreStoredDots (record { store = started; context = known })
  pub drains : AreStoredDrains (record { store = drained; context = known })

-- the join, or None if it is this store
abbrev pub IsJoinedOr : {S : Type 0} → S → S → Option S → Type 0
IsJoinedOr mine join joined = unwrap_or joined mine ≡ join
