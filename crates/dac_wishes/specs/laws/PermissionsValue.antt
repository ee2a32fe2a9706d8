-- Laws of the definitions in `PermissionsValue`.
use Rattle.std.specs.Prelude.{◌≡◌}
use Rattle.std.specs.FinSet as set
use Rattle.std.specs.FinMap as map
use Rattle.dac_lattice.specs.Lattices.{IsLattice}
use Rattle.dac_wishes.specs.Keys.{key_cmp}
use Rattle.dac_wishes.specs.laws.Keys.{keys_total, exact_keys}
use Rattle.dac_wishes.specs.Writes.{Write}
use Rattle.dac_wishes.specs.laws.Votes.{known-join_votes, same_votes, votes_laws, no_votes_value, no_votes_least}
use Rattle.dac_wishes.specs.PermissionsValue.{ArePermissions, IsPermissionsBelow, PermissionsValue, join_permissions, no_permissions}

-- ---- the laws

pub known-join : (x y : PermissionsValue) → (join_permissions x y).known ≡ set.union x.known y.known
known-join = known-join_votes key_cmp

-- two values with equal parts are equal
pub same_permissions : (x y : PermissionsValue) → x.known ≡ y.known → ((w : Write) → map.get x.standing w ≡ map.get y.standing w) → x ≡ y
same_permissions = same_votes keys_total exact_keys

pub permissions_laws : IsLattice ArePermissions IsPermissionsBelow join_permissions
permissions_laws = votes_laws keys_total exact_keys

pub no_permissions_value : ArePermissions no_permissions
no_permissions_value = no_votes_value key_cmp

pub no_permissions_least : (x : PermissionsValue) → IsPermissionsBelow no_permissions x
no_permissions_least = no_votes_least key_cmp
