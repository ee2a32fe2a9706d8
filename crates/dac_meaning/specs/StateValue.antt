-- The value of a state, as sets and maps: equal parts make equal values.
use Rattle.std.specs.Prelude.{refl}
use Rattle.std.specs.Coded.{Coded, code_by, coded×}
use Rattle.std.specs.FinSet as set
use Rattle.std.specs.FinMap as map
use Rattle.dac_base.specs.Ids.{coded_app, coded_node}
use Rattle.dac_origins.specs.Dots.{Dots, IsSubset, coded_dot, coded_origin}
use Rattle.dac_lattice.specs.Flags.{coded_flag}
use Rattle.dac_chains.specs.Greatest.{AreNotAbove, greater}
use Rattle.dac_chains.specs.Lives.{Lives, life_cmp, coded_life}
use Rattle.dac_chains.specs.Claims.{Claims, claim_cmp, coded_claim}
use Rattle.dac_wishes.specs.KeyedWrites.{coded_keyed_write}
use Rattle.dac_wishes.specs.Writes.{Writes, coded_write}
use Rattle.dac_wishes.specs.DrainsValue.{Drains, DrainsValue, AreDrains, AreDrainsBelow, join_drains}
use Rattle.dac_wishes.specs.WishesValue.{WishesValue, AreWishes, AreWishesBelow, join_wishes}
use Rattle.dac_wishes.specs.PermissionsValue.{Permits, PermissionsValue, ArePermissions, IsPermissionsBelow, join_permissions}

-- The state that a controller stores for the operations that it has received. (`heard` and the standing writes are the
-- causal contexts and dot stores of delta-state CRDTs. The rest is this project's own.)
pub record StateValue : Type 0 where
  -- the dots of the operations
  pub heard : Dots
  -- the dots of the operations, and those that they replace
  pub known : Dots
  -- the permits that no operation replaces, with their values
  pub permits : Permits
  -- the start wishes that no operation replaces
  pub starts : Writes
  -- the life of each node with a report
  pub lives : Lives
  -- the greatest claim of each application that was claimed
  pub claims : Claims
  -- the drains that no operation replaces, with their values
  pub drains : Drains

abbrev Parts : Type 0
Parts = (Dots × Dots) × (((Permits × Writes) × (Lives × Claims)) × Drains)

abbrev pub coded_state : Coded StateValue
coded_state =
    code_by Parts
    (coded× (coded× (set.code coded_dot) (set.code coded_dot)) (coded× (coded× (coded× (map.code coded_write coded_flag) (set.code coded_write)) (coded× (map.code coded_node coded_life) (map.code coded_app coded_claim))) (map.code (coded_keyed_write coded_origin) coded_flag)))
    (λ s. ((s.heard, s.known), (((s.permits, s.starts), (s.lives, s.claims)), s.drains)))
    (λ p. record { heard = p.0.0; known = p.0.1; permits = p.1.0.0.0; starts = p.1.0.0.1; lives = p.1.0.1.0; claims = p.1.0.1.1; drains = p.1.1 })
    (λ _. refl)

-- the permits of a state, paired with its known dots
abbrev pub permissions_of : StateValue → PermissionsValue
permissions_of s = record { known = s.known; standing = s.permits }

-- the start wishes of a state, paired with its known dots
abbrev pub wishes_of : StateValue → WishesValue
wishes_of s = record { known = s.known; standing = s.starts }

-- the drains of a state, paired with its known dots
abbrev pub drains_of : StateValue → DrainsValue
drains_of s = record { known = s.known; standing = s.drains }

-- the invariant of the type `State`, for forged values too
pub record IsState (s : StateValue) : Type 0 where
  -- heard dots are known
  pub heard : IsSubset s.heard s.known
  -- the dots of standing writes are known
  pub permits : ArePermissions (permissions_of s)
  pub starts : AreWishes (wishes_of s)
  pub drains : AreDrains (drains_of s)

-- x is below y: y has heard and knows all that x has, and no life and no claim is greater in x. Each write that stands
-- in y and is known to x stands in x too, with a value that isn't greater. Stated without join.
pub record IsBelow (x y : StateValue) : Type 0 where
  pub heard : IsSubset x.heard y.heard
  pub permits : IsPermissionsBelow (permissions_of x) (permissions_of y)
  pub starts : AreWishesBelow (wishes_of x) (wishes_of y)
  pub lives : AreNotAbove life_cmp x.lives y.lives
  pub claims : AreNotAbove claim_cmp x.claims y.claims
  pub drains : AreDrainsBelow (drains_of x) (drains_of y)

-- the empty state
abbrev pub bottom : StateValue
bottom = record {
  heard = set.empty;
  known = set.empty;
  permits = map.empty;
  starts = set.empty;
  lives = map.empty;
  claims = map.empty;
  drains = map.empty;
}

-- the join of two states, part by part
unfoldable pub join : StateValue → StateValue → StateValue
join s t = record {
  heard = set.union s.heard t.heard;
  known = set.union s.known t.known;
  permits = (join_permissions (permissions_of s) (permissions_of t)).standing;
  starts = (join_wishes (wishes_of s) (wishes_of t)).standing;
  lives = greater life_cmp s.lives t.lives;
  claims = greater claim_cmp s.claims t.claims;
  drains = (join_drains (drains_of s) (drains_of t)).standing;
}
