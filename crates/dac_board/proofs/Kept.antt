-- A change that keeps an application leaves its eligible nodes and its standing unchanged.
use Rattle.std.proofs.Common.{◌≡◌, false, not, cond, ◌&&◌, List, [], ◌∷◌, Option, Some, None, option_map, refl, ap, ◌∙◌}
use Rattle.std.specs.Prelude.{map as list_map, is_some, ◌==◌, if◌then◌else◌}
use Rattle.std.specs.Option.{option_map_or}
use Rattle.std.specs.FinMap as map
use Rattle.dac_base.specs.declared.NodeId.{NodeId}
use Rattle.dac_base.specs.declared.AppId.{AppId}
use Rattle.dac_origins.specs.declared.dot.Origin.{Origin}
use Rattle.dac_chains.specs.declared.claims.Claim.{Claim}
use Rattle.dac_chains.specs.Lives.{live_at}
use Rattle.dac_wishes.specs.declared.key.Key.{Key}
use Rattle.dac_config.specs.Table.{Table, group_of}
use Rattle.dac_meaning.specs.StateValue.{StateValue}
use Rattle.dac_placement.specs.declared.standing.Standing.TheVariants.{Unclaimed, Lost, Stopped, Barred, Upheld}
use Rattle.dac_placement.specs.Placement.{key_at, key_of, is_eligible, is_allowed_at, is_started_at, standing_at, standing_of, holder_of, nodes_of}
use Rattle.dac_board.specs.Boards.{spot_of, spots_of}
use Rattle.dac_board.specs.Grown.{KeepsApp}
use Rattle.dac_board.proofs.Untouched.{alike_allowed, alike_started}

-- ---- eligibility and standing

module _ (table : Table) (old new : StateValue) (app : AppId) (kept : KeepsApp old new app) where
  allowed : (key : Key) → key.app ≡ app → is_allowed_at table old key ≡ is_allowed_at table new key
  allowed key at = alike_allowed old new key (kept.alike key at) table

  started : (key : Key) → key.app ≡ app → is_started_at old key ≡ is_started_at new key
  started key at = alike_started old new key (kept.alike key at)

  kept_eligible : (node : NodeId) → is_eligible table old app node ≡ is_eligible table new app node
  kept_eligible node = λ i. is_some (group_of table app node) && option_map_or (λ inc. allowed (key_at app node inc) refl i && started (key_at app node inc) refl i) (live_at (kept.lives i) node) false

  kept_spot : (node : NodeId) → spot_of table old app node ≡ spot_of table new app node
  kept_spot node = ap (λ b. cond b (option_map (λ group. record { group = group; node = node }) (group_of table app node)) None) (kept_eligible node)

  kept_each : (nodes : List NodeId) → list_map (spot_of table old app) nodes ≡ list_map (spot_of table new app) nodes
  kept_each [] = refl
  kept_each (node ∷ nodes) = λ i. kept_spot node i ∷ kept_each nodes i

  pub kept_spots : spots_of table old app ≡ spots_of table new app
  kept_spots = kept_each (nodes_of table)

  -- the standing at any holder is unchanged
  same_at : (o : Origin) → standing_at table old app o ≡ standing_at table new app o
  same_at o = λ i.
      if not (option_map_or (λ inc. inc == o.inc) (live_at (kept.lives i) o.node) false) then Lost
      else if not (started (key_of app o) refl i) then Stopped o.node
      else if not (allowed (key_of app o) refl i) then Barred
      else Upheld o.node

  same_if : (holder : Option Origin) → option_map_or (standing_at table old app) holder Unclaimed ≡ option_map_or (standing_at table new app) holder Unclaimed
  same_if None = refl
  same_if (Some o) = same_at o

  pub kept_standing : map.get old.claims app ≡ map.get new.claims app → standing_of table old app ≡ standing_of table new app
  kept_standing same = same_if (holder_of old app) ∙ ap (λ (o : Option Claim). option_map_or (standing_at table new app) (option_map (λ (claim : Claim). claim.origin) o) Unclaimed) same
