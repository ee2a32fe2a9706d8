-- The parts that a change of state leaves unchanged.
use Rattle.std.specs.Prelude.{◌≡◌, ℕ, ◌<◌, IsTrue, false, get_or}
use Rattle.std.specs.FinMap as map
use Rattle.dac_base.specs.declared.AppId.{AppId}
use Rattle.dac_base.specs.declared.NodeId.{NodeId}
use Rattle.dac_base.specs.declared.limits.TheConstants.{MAX_NODES}
use Rattle.dac_chains.specs.Lives.{IsLive}
use Rattle.dac_wishes.specs.declared.key.Key.{Key}
use Rattle.dac_wishes.specs.Writes.{dots_at}
use Rattle.dac_wishes.specs.PermissionsValue.{permits_at}
use Rattle.dac_wishes.specs.DrainsValue.{origin, drains_at}
use Rattle.dac_meaning.specs.StateValue.{StateValue}
use Rattle.dac_board.specs.declared.moving.Grown.{Grown}
use Rattle.dac_board.specs.Touched.{StandAlike}
use Rattle.dac_board.specs.Marks.{is_marked}

-- the same permits and starts stand at each key of the application and the node
pub record KeepsPair (old new : StateValue) (app : AppId) (node : NodeId) : Type 0 where
  pub permits : (key : Key) → key.app ≡ app → key.node ≡ node → permits_at key old.permits ≡ permits_at key new.permits
  pub starts : (key : Key) → key.app ≡ app → key.node ≡ node → dots_at key old.starts ≡ dots_at key new.starts

-- the node's life is unchanged, and the same drains stand at its live incarnation
pub record NodeStays (old new : StateValue) (node : NodeId) : Type 0 where
  pub life : map.get old.lives node ≡ map.get new.lives node
  pub drains : (inc : ℕ) → IsLive new.lives node inc
      → drains_at (origin node inc) old.drains ≡ drains_at (origin node inc) new.drains

-- lives are unchanged, and the states stand alike at each key of the application
pub record KeepsApp (old new : StateValue) (app : AppId) : Type 0 where
  pub lives : old.lives ≡ new.lives
  pub alike : (key : Key) → key.app ≡ app → StandAlike old new key

-- whatever the change claims to leave unchanged is unchanged: permits and starts of the application, nodes, and claims
pub record IsGrown (g : Grown) (app : AppId) : Type 0 where
  pub keeps : (node : NodeId) → is_marked g.pairs node.0 ≡ false → KeepsPair g.old.now g.new.now app node
  pub lives : IsTrue g.is_still → g.old.now.lives ≡ g.new.now.lives
  pub drains : IsTrue g.is_still → g.old.now.drains ≡ g.new.now.drains
  pub claims : IsTrue g.is_claimed_alike → g.old.now.claims ≡ g.new.now.claims
  pub nodes : (node : NodeId) → node.0 < MAX_NODES → get_or g.nodes.now node.0 false ≡ false
      → NodeStays g.old.now g.new.now node
