-- The dots that a node hears by an event: those that the event carries, and no more.
use Rattle.std.specs.Prelude.{◌≡◌, [], ◌∷◌, map, Some}
use Rattle.std.specs.FinSet as set
use Rattle.dac_origins.specs.Dots.{Dots}
use Rattle.dac_operations.specs.Operations.{Operation}
use Rattle.dac_meaning.specs.StateValue.{StateValue}
use Rattle.dac_messages.specs.Bodies.{content_of}
use Rattle.dac_messages.specs.declared.event.Event.{Event}
use Rattle.dac_messages.specs.declared.event.Event.TheVariants.{Hear, HearOp}
use Rattle.dac_messages.specs.declared.reply.Reply.{Reply}
use Rattle.dac_messages.specs.declared.reply.Reply.TheVariants.{Booted, Issued, Ticked}
use Rattle.dac_model_node.specs.NodeValue.{NodeValue, state_of}

-- the dots of the operations that a reply issues
abbrev pub dots_issued : Reply → Dots
dots_issued (Booted o) = set.from_list (o.dot ∷ [])
dots_issued (Issued o) = set.from_list (o.dot ∷ [])
dots_issued (Ticked ops passed) = set.from_list (map (λ (o : Operation). o.dot) ops)
dots_issued _ = set.empty

-- the dots that an event with this reply carries: those of a message's body, of a single operation, or of issued
-- operations
abbrev pub dots_brought : Event → Reply → Dots
dots_brought (Hear m) reply = (content_of m.body).heard
dots_brought (HearOp o) reply = set.from_list (o.dot ∷ [])
dots_brought _ reply = dots_issued reply

-- if the node runs before and after the event, it has heard exactly its dots before and those that the event carries
pub record HearsExactly (old : NodeValue) (e : Event) (reply : Reply) (new : NodeValue) : Type 0 where
  pub each : (s t : StateValue) → state_of old ≡ Some s → state_of new ≡ Some t
      → t.heard ≡ set.union s.heard (dots_brought e reply)
