-- A node that handles an event as the model does.
use Rattle.std.specs.Prelude.{◌≡◌}
use Rattle.dac_base.specs.declared.NodeId.{NodeId}
use Rattle.dac_config.specs.Table.{Table}
use Rattle.dac_messages.specs.declared.event.Event.{Event}
use Rattle.dac_journal.specs.NodeValue.{NodeValue}
use Rattle.dac_journal.specs.ModelNode.{ModelNode, shown}
use Rattle.dac_journal.specs.Step.{model_step}

-- a model node that shows as the old node shows as the new one after the event
abbrev pub GoesOn : Table → NodeId → NodeValue → Event → NodeValue → Type 0
GoesOn t me old event new = (d : ModelNode) → shown t d ≡ old → shown t (model_step t me d event).node ≡ new
