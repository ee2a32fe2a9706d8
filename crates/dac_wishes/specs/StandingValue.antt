-- What stands of a set of operations: permits, start wishes and drains, with the known dots of all three.
use Rattle.std.specs.Prelude.{refl}
use Rattle.std.specs.Coded.{Coded, code_by, coded×}
use Rattle.std.specs.FinSet as set
use Rattle.std.specs.FinMap as map
use Rattle.dac_origins.specs.Dots.{Dots, coded_dot, coded_origin}
use Rattle.dac_lattice.specs.Flags.{coded_flag}
use Rattle.dac_wishes.specs.KeyedWrites.{coded_keyed_write}
use Rattle.dac_wishes.specs.Writes.{Writes, coded_write}
use Rattle.dac_wishes.specs.DrainsValue.{Drains, DrainsValue, AreDrains, AreDrainsBelow, join_drains}
use Rattle.dac_wishes.specs.WishesValue.{WishesValue, AreWishes, AreWishesBelow, join_wishes}
use Rattle.dac_wishes.specs.PermissionsValue.{Permits, PermissionsValue, ArePermissions, IsPermissionsBelow, join_permissions}

pub record StandingValue : Type 0 where
  pub known : Dots
  pub permits : Permits
  pub starts : Writes
  pub drains : Drains

abbrev pub coded_standing : Coded StandingValue
coded_standing =
    code_by ((Dots × Permits) × (Writes × Drains))
    (coded× (coded× (set.code coded_dot) (map.code coded_write coded_flag)) (coded× (set.code coded_write) (map.code (coded_keyed_write coded_origin) coded_flag)))
    (λ s. ((s.known, s.permits), (s.starts, s.drains)))
    (λ p. record { known = p.0.0; permits = p.0.1; starts = p.1.0; drains = p.1.1 })
    (λ _. refl)

-- the three pieces, each paired with the known dots
abbrev pub permissions_in : StandingValue → PermissionsValue
permissions_in s = record { known = s.known; standing = s.permits }

abbrev pub wishes_in : StandingValue → WishesValue
wishes_in s = record { known = s.known; standing = s.starts }

abbrev pub drains_in : StandingValue → DrainsValue
drains_in s = record { known = s.known; standing = s.drains }

-- the value of three pieces that know the same dots
abbrev pub standing_of : PermissionsValue → WishesValue → DrainsValue → StandingValue
standing_of permissions wishes drains =
    record { known = wishes.known; permits = permissions.standing; starts = wishes.standing; drains = drains.standing }

-- the dots of standing writes are known
pub record AreStanding (s : StandingValue) : Type 0 where
  pub permits : ArePermissions (permissions_in s)
  pub starts : AreWishes (wishes_in s)
  pub drains : AreDrains (drains_in s)

pub record IsStandingBelow (s t : StandingValue) : Type 0 where
  pub permits : IsPermissionsBelow (permissions_in s) (permissions_in t)
  pub starts : AreWishesBelow (wishes_in s) (wishes_in t)
  pub drains : AreDrainsBelow (drains_in s) (drains_in t)

abbrev pub join_standing : StandingValue → StandingValue → StandingValue
join_standing s t = record {
  known = set.union s.known t.known;
  permits = (join_permissions (permissions_in s) (permissions_in t)).standing;
  starts = (join_wishes (wishes_in s) (wishes_in t)).standing;
  drains = (join_drains (drains_in s) (drains_in t)).standing;
}
