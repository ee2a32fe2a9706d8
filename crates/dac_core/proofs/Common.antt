-- The names that several proofs cite, passed on from one place. Declares nothing.
pub use Rattle.std.specs.List.{slice_get}
pub use Rattle.dac_config.specs.Table.{Table}
pub use Rattle.dac_operations.specs.Operations.{Operation}
pub use Rattle.dac_events.specs.declared.What.{What}
pub use Rattle.dac_events.specs.declared.WorldEvent.{WorldEvent}
pub use Rattle.dac_events.specs.declared.world_fault.WorldFault.{WorldFault}
pub use Rattle.dac_events.specs.declared.world_fault.WorldFault.TheVariants.{Refused}
pub use Rattle.dac_messages.specs.declared.event.Event.TheVariants.{Crash}
pub use Rattle.dac_messages.specs.declared.message.Message.{Message}
pub use Rattle.dac_messages.specs.declared.reply.Reply.{Reply}
pub use Rattle.dac_settle.specs.dac_model_world.AtNode.{HappensAt}
pub use Rattle.dac_settle.specs.dac_model_world.Made.{IsMade}
pub use Rattle.dac_settle.specs.dac_model_world.ModelWorld.{event_of, counted, RanAs}
pub use Rattle.dac_settle.specs.dac_model_world.WorldValue.{WorldValue}
pub use Rattle.dac_settle.specs.dac_model_world.laws.Follow.{follows_in, node_at, happens_refused}
pub use Rattle.dac_node.specs.Changes.{changed}
pub use Rattle.dac_core.specs.Ready.{IsPreparedAt}
