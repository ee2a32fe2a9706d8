-- The names that several proofs cite, passed on from one place. Declares nothing.
pub use Rattle.std.proofs.lemmas.Bool.{ltb-true, ltb-false, eqb-true, false_from_ne_true, lt-ltb, false≢true, and_parts, leb-true, le-leb, eq-eqb}
pub use Rattle.std.specs.Option.{option_map_or}
pub use Rattle.std.specs.Prelude.{min, max, nat_eq, nat_lt, IfSome, fold, unwrap_or, nat_le, is_some}
pub use Rattle.dac_base.specs.declared.AppId.{AppId}
pub use Rattle.dac_base.specs.declared.NodeId.{NodeId}
pub use Rattle.dac_base.specs.declared.limits.TheConstants.{MAX_COUNTER, MAX_INCARNATION}
pub use Rattle.dac_config.specs.Table.{Table, node_count, app_count, group_of}
pub use Rattle.dac_origins.specs.declared.dot.Origin.{Origin}
pub use Rattle.dac_deltas.specs.KeptDeltas.{KeptDeltas, pushed, trimmed}
pub use Rattle.dac_deltas.specs.declared.buffer.TheConstants.{MAX_DELTAS}
pub use Rattle.dac_chains.specs.Lives.{IsLive}
pub use Rattle.dac_operations.specs.Operations.{Operation}
pub use Rattle.dac_operations.specs.declared.act.Act.{Act}
unfoldable pub use Rattle.dac_meaning.specs.Below.{is_below}
unfoldable pub use Rattle.dac_meaning.specs.Meaning.{meaning_of}
pub use Rattle.dac_meaning.specs.StateValue.{StateValue, IsState, IsBelow, bottom}
unfoldable pub use Rattle.dac_meaning.specs.StateValue.{join}
pub use Rattle.dac_meaning.specs.laws.Below.{is_below-is}
pub use Rattle.dac_decide.specs.FailoverWait.{Note, waits_of}
pub use Rattle.dac_decide.specs.Placement.{is_up, apps_of, runner_of}
pub use Rattle.dac_decide.specs.StartGate.{opening_of}
pub use Rattle.dac_decide.specs.declared.start_gate.Opening.{Opening}
pub use Rattle.dac_decide.specs.declared.start_gate.Opening.TheVariants.{Shut, Opened, GiveUp}
pub use Rattle.dac_decide.specs.declared.waits.Noted.{Noted}
pub use Rattle.dac_decide.specs.laws.Tests.{up_is}
pub use Rattle.dac_events.specs.Refusals.{number_of}
pub use Rattle.dac_events.specs.declared.Command.{Command}
pub use Rattle.dac_events.specs.declared.Command.TheVariants.{Down, Permit, Start, Stop, Drain, Takeover}
pub use Rattle.dac_events.specs.declared.refusal.Refusal.{Refusal}
pub use Rattle.dac_events.specs.declared.refusal.Refusal.TheVariants.{DeclaredDown, MomentBack, DotsUsedUp, AlreadyOn, Off, UnknownApp, UnknownNode, OnSelf, NotInList, NotLive, NotForMe, NoMemory}
pub use Rattle.dac_messages.specs.Bodies.{content_of}
pub use Rattle.dac_messages.specs.declared.event.Event.{Event}
pub use Rattle.dac_messages.specs.declared.event.Event.TheVariants.{Boot, Crash, Tick, Ship, Hear, HearOp}
pub use Rattle.dac_messages.specs.declared.message.Message.{Message}
pub use Rattle.dac_messages.specs.declared.reply.Reply.{Reply}
pub use Rattle.dac_messages.specs.declared.reply.Reply.TheVariants.{Ticked, Held, Shipped}
pub use Rattle.dac_peers.specs.Peers.{PeersValue, begins, is_up_to_date}
pub use Rattle.dac_peers.specs.declared.positions.Position.{Position}
pub use Rattle.dac_commands.specs.Causes.{declared_down, first, refusal_of_command, no_node, no_app, unlisted, not_live, used_up, runs_earlier}
pub use Rattle.dac_commands.specs.Commands.{next_operation, greatest_counter}
pub use Rattle.dac_commands.specs.laws.Counters.{used_up_is}
pub use Rattle.dac_commands.specs.laws.Written.{none_is}
pub use Rattle.dac_ticks.specs.Ticks.{Sweep, sweep_of, claim_of}
pub use Rattle.dac_ticks.specs.laws.Claims.{state_joined}
pub use Rattle.dac_ticks.specs.laws.Sweeping.{numbered, swept_by, sweep_reaches}
pub use Rattle.dac_model_node.specs.Accepted.{left_by, reply_by, running_by, AreNewest, IsNotingBy, AcceptedAs}
pub use Rattle.dac_model_node.specs.Effect.{HasEffect}
pub use Rattle.dac_model_node.specs.EventRefusals.{causes_to_tick, refusal_to_tick, needed, too_few_left, too_many_deltas, refusal_by, refusal_of, otherwise, overflows, refusal_on, is_for}
pub use Rattle.dac_model_node.specs.Keeping.{LeavesRunning, RunsOn, deltas_in, had_by_all}
pub use Rattle.dac_model_node.specs.ModelNode.{ModelNode, ModelRunning, base_after, joined, running_shown, shown}
pub use Rattle.dac_model_node.specs.NodeValue.{RunningValue, NodeValue, state_of}
pub use Rattle.dac_model_node.specs.Refused.{causes_of_event, IsOneOf}
pub use Rattle.dac_model_node.specs.Shipping.{IsPosition}
pub use Rattle.dac_model_node.specs.Step.{goes_on, model_step, step_by, accepted, transition_on}
pub use Rattle.dac_model_node.specs.Transitions.{meanings, opening_at, ticks_by, note_of, transition_of, brings, Transition, message_of}
