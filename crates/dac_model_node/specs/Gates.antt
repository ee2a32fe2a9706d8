-- An open start gate stays open until its node goes off. (OTP's kernel waits for other nodes while it starts, and never
-- again while it runs.)
use Rattle.std.specs.Prelude.{◌≡◌, true, Option, Some, Result, Ok, Err}
use Rattle.dac_base.specs.declared.NodeId.{NodeId}
use Rattle.dac_config.specs.Table.{Table}
use Rattle.dac_messages.specs.declared.event.Event.{Event}
use Rattle.dac_messages.specs.declared.reply.Reply.{Reply}
use Rattle.dac_messages.specs.declared.reply.Reply.TheVariants.{Crashed, Ticked, Held, GaveUp}
use Rattle.dac_model_node.specs.ModelNode.{ModelNode, ModelRunning}
use Rattle.dac_model_node.specs.Step.{model_step}

-- ---- replies

-- the node made a pass over its applications, so that its start gate is open
abbrev pub SaysOpen : Reply → Type 0
SaysOpen (Ticked ops passed) = Unit {0}
SaysOpen _ = ⊥

-- the start gate isn't open: the node still waits, or gives up
abbrev pub SaysShut : Reply → Type 0
SaysShut Held = Unit {0}
SaysShut GaveUp = Unit {0}
SaysShut _ = ⊥

-- the node goes off
abbrev pub SaysOff : Reply → Type 0
SaysOff Crashed = Unit {0}
SaysOff GaveUp = Unit {0}
SaysOff _ = ⊥

-- the result is a reply of which the predicate holds
abbrev pub Answers : {F : Type 0} → (Reply → Type 0) → Result Reply F → Type 0
Answers Says (Ok reply) = Says reply
Answers Says (Err fault) = ⊥

-- ---- one event

-- a node runs, and its start gate is open
pub record RunsOpen (running : Option ModelRunning) : Type 0 where
  pub run : ModelRunning
  pub on : running ≡ Some run
  pub opened : run.is_open ≡ true

-- after a tick by which a node made its pass, its start gate is open
abbrev pub TicksOpen : Type 0
TicksOpen = (t : Table) (me : NodeId) (d : ModelNode) (e : Event) → Answers SaysOpen (model_step t me d e).answer
    → RunsOpen (model_step t me d e).node.running

-- a node with an open start gate still has one after each event, unless it goes off
abbrev pub OpenStays : Type 0
OpenStays = (t : Table) (me : NodeId) (d : ModelNode) (e : Event) → RunsOpen d.running
    → ¬ (Answers SaysOff (model_step t me d e).answer) → RunsOpen (model_step t me d e).node.running

-- a node with an open start gate never replies that it is shut
abbrev pub OpenIsOpen : Type 0
OpenIsOpen = (t : Table) (me : NodeId) (d : ModelNode) (e : Event) → RunsOpen d.running
    → ¬ (Answers SaysShut (model_step t me d e).answer)
