-- `share` in the model world.
use Rattle.std.specs.Prelude.{◌≡◌, ℕ, Bool, List, length, map, filter, fold, Option, if◌then◌else◌}
use Rattle.std.specs.List.{range_with_len}
use Rattle.std.specs.Option.{is_some, option_map}
use Rattle.std.specs.Result.{is_ok}
use Rattle.dac_base.specs.declared.NodeId.{NodeId}
use Rattle.dac_origins.specs.declared.dot.Origin.{Origin}
use Rattle.dac_config.specs.Table.{Table}
use Rattle.dac_events.specs.declared.What.TheVariants as what
use Rattle.dac_events.specs.declared.WorldEvent.{WorldEvent}
use Rattle.dac_meaning.specs.StateValue.{StateValue}
use Rattle.dac_core.specs.WorldValue.{WorldValue}
use Rattle.dac_core.specs.ModelNode.{ModelRunning, joined}
use Rattle.dac_core.specs.ModelWorld.{ModelWorld, WorldStepped, Shows, happens, numbered}
use Rattle.dac_play.specs.Pairs.{pairs}

-- the state of a running node of the model world
abbrev pub state_in : ModelWorld → NodeId → Option StateValue
state_in w node = option_map (λ (r : ModelRunning). joined r.log) (w.node node).running

-- the present incarnation of a running node of the model world
abbrev pub origin_in : ModelWorld → NodeId → Option Origin
origin_in w node = option_map (λ (r : ModelRunning). r.origin) (w.node node).running

-- the nodes below count that have a state, by name
abbrev pub having_state : (NodeId → Option StateValue) → ℕ → List NodeId
having_state state count = filter (λ node. is_some (state node)) (map numbered (range_with_len 0 count))

-- a ship from one node to another
abbrev pub shipping : NodeId × NodeId → WorldEvent
shipping pair = record { node = pair.0; what = what.Ship pair.1 }

-- the delivery of the last message
abbrev pub delivery : ℕ → NodeId → WorldEvent
delivery messages to = record { node = to; what = what.Deliver messages }

-- the world after a ship, with the message delivered if one was sent
abbrev pub delivered : Table → NodeId → WorldStepped → ModelWorld
delivered table to shipped =
    if is_ok shipped.answer then (happens table shipped.world (delivery (length shipped.world.messages) to)).world
    else shipped.world

-- one node ships to another, which receives the message at once; refusals are skipped
abbrev pub after_telling : Table → ModelWorld → NodeId × NodeId → ModelWorld
after_telling table w pair = delivered table pair.1 (happens table w (shipping pair))

-- Every running node ships to every other one, in the order of names. (Who runs doesn't change meanwhile.)
abbrev pub shared : Table → ModelWorld → ModelWorld
shared table w = fold (after_telling table) w (pairs (having_state (state_in w) w.count))

-- The program's world goes from old to new as every model world that shows as old does.
pub record Leads (table : Table) (old : WorldValue) (by : ModelWorld → ModelWorld) (new : WorldValue) : Type 0 where
  pub each : (w : ModelWorld) → Shows table w old → Shows table (by w) new

-- The program's world accepts or refuses the event and goes from old to new, as every model world that shows as old
-- does.
pub record IsAnswered (table : Table) (old : WorldValue) (event : WorldEvent) (accepted : Bool)
    (new : WorldValue) : Type 0 where
  pub each : (w : ModelWorld) → Shows table w old
      → (accepted ≡ is_ok (happens table w event).answer) × Shows table (happens table w event).world new
