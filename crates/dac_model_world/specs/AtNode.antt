-- The effect of an event at a node on the program's world.
use Rattle.std.specs.Prelude.{◌≡◌, ℕ, Some, Result, Ok}
use Rattle.std.specs.List.{slice_get}
use Rattle.dac_base.specs.declared.NodeId.{NodeId}
use Rattle.dac_config.specs.Table.{Table}
use Rattle.dac_events.specs.declared.WorldEvent.{WorldEvent}
use Rattle.dac_messages.specs.declared.event.Event.{Event}
use Rattle.dac_messages.specs.declared.reply.Reply.{Reply}
use Rattle.dac_model_node.specs.NodeValue.{NodeValue}
use Rattle.dac_model_node.specs.Hearing.{HearsExactly}
use Rattle.dac_events.specs.declared.world_fault.WorldFault.{WorldFault}
use Rattle.dac_model_world.specs.WorldValue.{WorldValue}
use Rattle.dac_model_world.specs.ModelWorld.{Follows, happens_by, event_of}

-- the node hears the dots that the event brings, and no others, and no other node changes
pub record HearsAt (old : WorldValue) (node : NodeId) (e : Event) (reply : Reply) (new : WorldValue) : Type 0 where
  pub hears : (x y : NodeValue) → slice_get old.nodes node.0 ≡ Some x → slice_get new.nodes node.0 ≡ Some y
      → HearsExactly x e reply y
  pub others : (n : ℕ) → ¬ (n ≡ node.0) → slice_get new.nodes n ≡ slice_get old.nodes n

-- if the event of the world leads to one of its node, the node hears the dots that it brings, and no others
abbrev pub HearsIn : WorldValue → WorldEvent → Reply → WorldValue → Type 0
HearsIn old w reply new =
    (e : Event) → event_of old.operations old.messages w.what ≡ Ok e → HearsAt old w.node e reply new

-- the event happens as in the model worlds, and the node hears what it brings
pub record HappensAt (t : Table) (old : WorldValue) (node : NodeId) (what : Result Event WorldFault)
    (answer : Result Reply WorldFault) (new : WorldValue) : Type 0 where
  pub follows : Follows t old (λ w. happens_by t w node what) answer new
  pub hears : (reply : Reply) → answer ≡ Ok reply → (e : Event) → what ≡ Ok e → HearsAt old node e reply new
