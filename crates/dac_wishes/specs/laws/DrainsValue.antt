-- Laws of the definitions in `DrainsValue`.
use Rattle.std.specs.Prelude.{◌≡◌}
use Rattle.std.specs.FinSet as set
use Rattle.std.specs.FinMap as map
use Rattle.dac_origins.specs.Dots.{origin_cmp}
use Rattle.dac_origins.specs.laws.Dots.{origins_total, exact_origins}
use Rattle.dac_lattice.specs.Lattices.{IsLattice}
use Rattle.dac_wishes.specs.laws.Votes.{known-join_votes, same_votes, votes_laws, no_votes_value, no_votes_least}
use Rattle.dac_wishes.specs.DrainsValue.{AreDrains, AreDrainsBelow, DrainWrite, DrainsValue, join_drains, no_drains}

-- ---- the laws

pub known-join : (x y : DrainsValue) → (join_drains x y).known ≡ set.union x.known y.known
known-join = known-join_votes origin_cmp

-- two values with equal parts are equal
pub same_drains : (x y : DrainsValue) → x.known ≡ y.known → ((w : DrainWrite) → map.get x.standing w ≡ map.get y.standing w) → x ≡ y
same_drains = same_votes origins_total exact_origins

pub drains_laws : IsLattice AreDrains AreDrainsBelow join_drains
drains_laws = votes_laws origins_total exact_origins

pub no_drains_value : AreDrains no_drains
no_drains_value = no_votes_value origin_cmp

pub no_drains_least : (x : DrainsValue) → AreDrainsBelow no_drains x
no_drains_least = no_votes_least origin_cmp
