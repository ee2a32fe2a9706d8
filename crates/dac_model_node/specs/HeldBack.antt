-- Ticks that are held back, because the start gate is shut.
use Rattle.std.specs.Prelude.{◌≡◌, ℕ, ◌<◌, Option, Some, Ok, Err}
use Rattle.dac_base.specs.declared.NodeId.{NodeId}
use Rattle.dac_config.specs.Table.{Table}
use Rattle.dac_messages.specs.declared.event.Event.TheVariants.{Tick}
use Rattle.dac_messages.specs.declared.reply.Reply.TheVariants.{Held}
use Rattle.dac_events.specs.declared.refusal.Refusal.TheVariants.{MomentBack}
use Rattle.dac_model_node.specs.NodeValue.{RunningValue}
use Rattle.dac_model_node.specs.ModelNode.{ModelNode, shown}
use Rattle.dac_model_node.specs.Step.{model_step}

-- The node runs on with unchanged waits, and this is its last moment.
pub record WaitsAsBefore (now : ℕ) (old new : Option RunningValue) : Type 0 where
  pub before : RunningValue
  pub after : RunningValue
  pub ran : old ≡ Some before
  pub runs : new ≡ Some after
  pub waits : after.waits ≡ before.waits
  pub last : after.moments.last ≡ now

-- A tick that is held back notes nothing, so that no failover timer starts or ends while the start gate is shut.
abbrev pub HeldTicksNoteNothing : Type 0
HeldTicksNoteNothing = (t : Table) (me : NodeId) (d : ModelNode) (now : ℕ) → (model_step t me d (Tick now)).answer ≡ Ok Held
    → WaitsAsBefore now (shown t d).running (shown t (model_step t me d (Tick now)).node).running

-- The moment of a tick that is held back counts: a later tick at an earlier moment is refused.
abbrev pub HeldTicksCount : Type 0
HeldTicksCount = (t : Table) (me : NodeId) (d : ModelNode) (now back : ℕ) → (model_step t me d (Tick now)).answer ≡ Ok Held
    → back < now → (model_step t me (model_step t me d (Tick now)).node (Tick back)).answer ≡ Err MomentBack
