-- The pairs of an application and a node that a change of state touches: those at which eligibility can change.
use Rattle.std.specs.Prelude.{◌≡◌, ◌⊎◌, ℕ, Bool, false, true, not, ◌&&◌, ◌||◌, length, filter, Option, None, Some, IsSome, is_some, if◌then◌else◌}
use Rattle.std.specs.List.{sum_by}
use Rattle.std.specs.Option.{option_map_or}
use Rattle.std.specs.Ordering.{is_eq}
use Rattle.std.specs.FinMap as map
use Rattle.std.specs.Cmp.Lexicographic.{pointwise}
use Rattle.dac_base.specs.declared.NodeId.{NodeId}
use Rattle.dac_base.specs.declared.AppId.{AppId}
use Rattle.dac_origins.specs.declared.dot.Dot.{Dot}
use Rattle.dac_origins.specs.declared.dot.Origin.{Origin}
use Rattle.dac_origins.specs.InOrder.{in_order}
use Rattle.dac_lattice.specs.declared.flags.Flag.{Flag}
use Rattle.dac_store.specs.SameDots.{are_same}
use Rattle.dac_config.specs.Table.{Table, group_of}
use Rattle.dac_chains.specs.declared.lives.Life.{Life}
use Rattle.dac_chains.specs.Lives.{life_cmp, IsLive, live_at}
use Rattle.dac_wishes.specs.declared.key.Key.{Key}
use Rattle.dac_wishes.specs.Writes.{dots_at}
use Rattle.dac_wishes.specs.PermissionsValue.{is_permitting, permits_at}
use Rattle.dac_wishes.specs.DrainsValue.{origin, drains_at}
use Rattle.dac_meaning.specs.StateValue.{StateValue}
use Rattle.dac_placement.specs.Placement.{key_at, apps_of, nodes_of}

-- the incarnation of a key
abbrev pub origin_of : Key → Origin
origin_of key = origin key.node key.inc

-- in both states the same permits and starts stand at the key, and the same drains, with their values, at its
-- incarnation
pub record StandAlike (old new : StateValue) (key : Key) : Type 0 where
  pub permits : permits_at key old.permits ≡ permits_at key new.permits
  pub starts : dots_at key old.starts ≡ dots_at key new.starts
  pub drains : drains_at (origin_of key) old.drains ≡ drains_at (origin_of key) new.drains

-- The application's list names the node, and either its life differs between the states, or the states don't stand
-- alike for the application at the incarnation that is live in the new one.
pub record IsTouched (table : Table) (old new : StateValue) (app : AppId) (node : NodeId) : Type 0 where
  pub listed : IsSome (group_of table app node)
  pub differs : ¬ (map.get old.lives node ≡ map.get new.lives node)
      ⊎ ((inc : ℕ) × IsLive new.lives node inc × ¬ StandAlike old new (key_at app node inc))

-- ---- as tests

abbrev pub same_life : Option Life → Option Life → Bool
same_life None None = true
same_life None (Some m) = false
same_life (Some l) None = false
same_life (Some l) (Some m) = is_eq (life_cmp l m)

abbrev pub same_flag : Flag → Flag → Bool
same_flag f g = if is_permitting f then is_permitting g else not (is_permitting g)

abbrev pub same_vote : Dot × Flag → Dot × Flag → Bool
same_vote p q = are_same p.0 q.0 && same_flag p.1 q.1

abbrev pub stand_alike : StateValue → StateValue → Key → Bool
stand_alike old new key =
    (pointwise same_vote (permits_at key old.permits) (permits_at key new.permits)
    && pointwise are_same (in_order (dots_at key old.starts)) (in_order (dots_at key new.starts)))
    && pointwise same_vote (drains_at (origin_of key) old.drains) (drains_at (origin_of key) new.drains)

abbrev pub is_touched : Table → StateValue → StateValue → AppId → NodeId → Bool
is_touched table old new app node =
    is_some (group_of table app node)
    && (not (same_life (map.get old.lives node) (map.get new.lives node))
    || option_map_or (λ inc. not (stand_alike old new (key_at app node inc))) (live_at new.lives node) false)

-- ---- how many pairs are touched

-- how many nodes are touched for an application
abbrev pub touched_of : Table → StateValue → StateValue → AppId → ℕ
touched_of table old new app = length (filter (is_touched table old new app) (nodes_of table))

-- how many pairs of an application and a node are touched
abbrev pub touched : Table → StateValue → StateValue → ℕ
touched table old new = sum_by (touched_of table old new) (apps_of table)
