-- The history of one node: its own events with their results.
use Rattle.std.specs.Prelude.{◌≡◌, ℕ, List, [], ◌∷◌, None, Result}
use Rattle.dac_base.specs.declared.NodeId.{NodeId}
use Rattle.dac_config.specs.Table.{Table}
use Rattle.dac_messages.specs.declared.event.Event.{Event}
use Rattle.dac_messages.specs.declared.reply.Reply.{Reply}
use Rattle.dac_events.specs.declared.refusal.Refusal.{Refusal}
use Rattle.dac_model_node.specs.ModelNode.{ModelNode}
use Rattle.dac_model_node.specs.Step.{model_step}

-- a model node that is off and whose last incarnation was `last`
abbrev pub off_after : ℕ → ModelNode
off_after last = record { last = last; running = None }

-- an event of a node, and its result
pub record Entry : Type 0 where
  pub event : Event
  pub answer : Result Reply Refusal

-- Each result is that of the model's step, event after event from d, and they lead to `final`. The node boots as node
-- me.
abbrev pub IsHistory : Table → NodeId → ModelNode → List Entry → ModelNode → Type 0
IsHistory t me d [] final = final ≡ d
IsHistory t me d (x ∷ xs) final =
    ((model_step t me d x.event).answer ≡ x.answer) × IsHistory t me (model_step t me d x.event).node xs final
