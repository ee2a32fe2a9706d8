-- The names that several proofs cite, passed on from one place. Declares nothing.
pub use Rattle.std.proofs.lemmas.Bool.{ltb-false}
pub use Rattle.std.specs.Arc.{arc_value}
pub use Rattle.std.specs.Option.{option_map}
pub use Rattle.std.specs.Prelude.{fold, unwrap_or, MatchOption, IfSome}
pub use Rattle.dac_base.specs.declared.limits.TheConstants.{MAX_COUNTER}
pub use Rattle.dac_config.specs.Table.{Table}
pub use Rattle.dac_deltas.specs.KeptDeltas.{pushed}
pub use Rattle.dac_operations.specs.Operations.{Operation}
unfoldable pub use Rattle.dac_meaning.specs.Below.{is_below}
unfoldable pub use Rattle.dac_meaning.specs.Meaning.{meaning_of}
pub use Rattle.dac_meaning.specs.StateValue.{StateValue, bottom}
unfoldable pub use Rattle.dac_meaning.specs.StateValue.{join}
pub use Rattle.dac_meaning.specs.laws.Below.{is_below-is}
pub use Rattle.dac_decide.specs.declared.waits.Noted.{Noted}
pub use Rattle.dac_messages.specs.Bodies.{content_of}
pub use Rattle.dac_messages.specs.declared.event.Event.TheVariants.{Hear, HearOp}
pub use Rattle.dac_messages.specs.declared.reply.Reply.{Reply}
pub use Rattle.dac_messages.specs.declared.reply.Reply.TheVariants.{Heard}
pub use Rattle.dac_model_node.specs.Accepted.{IsNoting}
pub use Rattle.dac_model_node.specs.EventRefusals.{refusal_by}
pub use Rattle.dac_model_node.specs.NodeValue.{RunningValue, NodeValue, state_of}
pub use Rattle.dac_model_node.specs.Step.{up}
pub use Rattle.dac_model_node.specs.Transitions.{brings, transition_of, meanings}
pub use Rattle.dac_model_node.specs.dac_commands.Commands.{KnowsOwnBoot}
pub use Rattle.dac_model_node.specs.dac_commands.laws.Written.{none_is}
pub use Rattle.dac_node.specs.After.{news, noting, IsTickAt}
pub use Rattle.dac_node.specs.Changes.{ChangeValue, Effect, Fits, Prepared}
pub use Rattle.dac_node.specs.declared.change.After.TheVariants.{Notes, Ticks}
pub use Rattle.dac_node.specs.declared.ticking.TickChange.{TickChange}
