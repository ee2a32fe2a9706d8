-- Changes that a node can apply, and prepared changes.
use Rattle.std.specs.Prelude.{◌≡◌, List, Some, None, Result, Ok}
use Rattle.std.specs.List.{slice_get}
use Rattle.dac_base.specs.declared.NodeId.{NodeId}
use Rattle.dac_config.specs.Table.{Table}
use Rattle.dac_events.specs.declared.world_fault.WorldFault.{WorldFault}
use Rattle.dac_messages.specs.declared.event.Event.{Event}
use Rattle.dac_messages.specs.declared.reply.Reply.TheVariants.{Crashed}
use Rattle.dac_settle.specs.dac_model_world.NodeValue.{NodeValue}
use Rattle.dac_node.specs.Changes.{ChangeValue, Fits, Prepared, changed}

-- the deltas of the change still get numbers, and a crash leaves the node off
abbrev pub IsReady : NodeValue → ChangeValue → Type 0
IsReady v change = Fits v change × (change.reply ≡ Crashed → (changed v change).running ≡ None)

-- the change is ready at the node of this number
abbrev pub IsReadyAt : List NodeValue → NodeId → ChangeValue → Type 0
IsReadyAt nodes node change = (v : NodeValue) → slice_get nodes node.0 ≡ Some v → IsReady v change

-- The node of this number doesn't refuse the event, this is its change, and the node can apply it.
pub record IsPreparedAt (t : Table) (nodes : List NodeValue) (node : NodeId) (what : Result Event WorldFault)
    (change : ChangeValue) : Type 0 where
  pub event : Event
  pub happens : what ≡ Ok event
  pub before : NodeValue
  pub there : slice_get nodes node.0 ≡ Some before
  pub prepared : Prepared t node before event change
  pub ready : IsReadyAt nodes node change
