-- The names that several proofs cite, passed on from one place. Declares nothing.
pub use Rattle.std.proofs.Math.ListN.{drop_of_length-le}
pub use Rattle.std.proofs.lemmas.Bool.{false_from_ne_true, and_parts, false≢true}
pub use Rattle.std.proofs.lemmas.List.{map-append, length-append, length-map}
pub use Rattle.std.proofs.lemmas.Map.Views.{exact_unsigned_eq}
pub use Rattle.std.specs.Cmp.{Equal-is, tied_itself}
pub use Rattle.std.specs.List.{slice_get, list_any}
pub use Rattle.std.specs.Option.{option_map, option_and_then, option_map_or}
pub use Rattle.std.specs.Ordering.{eq_by_cmp, is_eq}
pub use Rattle.std.specs.Prelude.{nat_lt, IfSome, IsTrue}
pub use Rattle.dac_base.specs.declared.NodeId.{NodeId}
pub use Rattle.dac_base.specs.declared.limits.TheConstants.{MAX_COUNTER}
pub use Rattle.dac_config.specs.Table.{Table}
pub use Rattle.dac_origins.specs.Dots.{origin_cmp, IsVector, dot_cmp, dot, IsNext}
pub use Rattle.dac_origins.specs.declared.dot.Dot.{Dot}
pub use Rattle.dac_origins.specs.declared.dot.Origin.{Origin}
pub use Rattle.dac_origins.specs.laws.Dots.{origins_total, exact_origins, dots_total, exact_dots}
pub use Rattle.dac_lattice.specs.Flags.{flag_cmp}
pub use Rattle.dac_chains.specs.Greatest.{IsGreatest, IsSaid}
pub use Rattle.dac_chains.specs.Lives.{life_cmp}
pub use Rattle.dac_chains.specs.declared.lives.Life.{Life}
pub use Rattle.dac_wishes.specs.Writes.{same_dot}
pub use Rattle.dac_wishes.specs.declared.key.Key.{Key}
pub use Rattle.dac_wishes.specs.laws.KeyedWrites.{same_dot_is, same_dot_itself}
pub use Rattle.dac_operations.specs.Operations.{Operation}
pub use Rattle.dac_operations.specs.declared.act.Act.{Act}
pub use Rattle.dac_operations.specs.declared.act.Act.TheVariants.{Down, Permit, Start, Stop, Drain}
unfoldable pub use Rattle.dac_meaning.specs.Below.{is_below}
pub use Rattle.dac_meaning.specs.Meaning.{IsOperationOf, AreOperationsOf, DotsDetermine, has_dot, is_replaced, names, pairs, life_said}
unfoldable pub use Rattle.dac_meaning.specs.Meaning.{meaning_of}
pub use Rattle.dac_meaning.specs.StateValue.{StateValue, bottom}
unfoldable pub use Rattle.dac_meaning.specs.StateValue.{join}
pub use Rattle.dac_meaning.specs.laws.Below.{is_below-is}
pub use Rattle.dac_meaning.specs.laws.Chained.{of_said}
pub use Rattle.dac_meaning.specs.laws.Joins.{join-meaning, meaning-same}
pub use Rattle.dac_meaning.specs.laws.Members.{Within-append, In-append_left, In-append_right, In-append_cases, found, finds}
pub use Rattle.dac_meaning.specs.laws.Readers.{heard-meaning, known-meaning, starts-meaning, permits-meaning, lives-meaning, drains-meaning, lives_are}
pub use Rattle.dac_meaning.specs.laws.StateLaws.{state_laws}
pub use Rattle.dac_decide.specs.FailoverWait.{waits_of, Note}
pub use Rattle.dac_decide.specs.Placement.{verdict_of}
pub use Rattle.dac_decide.specs.declared.start_gate.Opening.{Opening}
pub use Rattle.dac_decide.specs.declared.start_gate.Opening.TheVariants.{Shut, Opened, GiveUp}
pub use Rattle.dac_decide.specs.declared.waits.Noted.{Noted}
pub use Rattle.dac_events.specs.declared.Command.{Command}
pub use Rattle.dac_events.specs.declared.What.{What}
pub use Rattle.dac_events.specs.declared.What.TheVariants.{Deliver, Hand}
pub use Rattle.dac_events.specs.declared.WorldEvent.{WorldEvent}
pub use Rattle.dac_events.specs.declared.refusal.Refusal.{Refusal}
pub use Rattle.dac_events.specs.declared.refusal.Refusal.TheVariants.{Off, NoMemory, OnSelf, NotForMe, DotsUsedUp}
pub use Rattle.dac_events.specs.declared.world_fault.WorldFault.{WorldFault}
pub use Rattle.dac_events.specs.declared.world_fault.WorldFault.TheVariants.{NoSuchNode, Refused}
pub use Rattle.dac_messages.specs.Bodies.{content_of}
pub use Rattle.dac_messages.specs.declared.event.Event.{Event}
pub use Rattle.dac_messages.specs.declared.event.Event.TheVariants.{Tick, Ship, Boot, Crash, Hear, HearOp}
pub use Rattle.dac_messages.specs.declared.message.Body.{Body}
pub use Rattle.dac_messages.specs.declared.message.Body.TheVariants.{Nothing, Interval}
pub use Rattle.dac_messages.specs.declared.message.Message.{Message}
pub use Rattle.dac_messages.specs.declared.reply.Reply.{Reply}
pub use Rattle.dac_messages.specs.declared.reply.Reply.TheVariants.{Booted, Heard, Crashed, GaveUp, Shipped}
pub use Rattle.dac_commands.specs.Causes.{refusal_of_command, first}
pub use Rattle.dac_commands.specs.Commands.{act_of, next_operation}
pub use Rattle.dac_commands.specs.Written.{PermitStands, StartStands, DrainStands}
pub use Rattle.dac_model_node.specs.Accepted.{AcceptedAs, left_by, reply_by}
pub use Rattle.dac_model_node.specs.EventRefusals.{refusal_of, refusal_by, refusal_to_tick, overflows}
pub use Rattle.dac_model_node.specs.Issued.{AreIssued}
pub use Rattle.dac_model_node.specs.ModelNode.{ModelRunning, joined, shown, running_shown, ModelNode}
pub use Rattle.dac_model_node.specs.NodeValue.{RunningValue, NodeValue, state_of}
pub use Rattle.dac_model_node.specs.Peers.{PeersValue, acked_by, acked_at, kept_from, begins, heard_from, ack_for, has_all}
pub use Rattle.dac_model_node.specs.Position.{Position}
pub use Rattle.dac_model_node.specs.Step.{step_by, accepted, up, goes_on, comes_up, transition_on, model_step, Stepped}
pub use Rattle.dac_model_node.specs.Ticks.{sweep_of}
pub use Rattle.dac_model_node.specs.Transitions.{ticks_by, opening_at, note_of, brings, Transition, transition_of, moment_of, meanings, body_from, message_of}
pub use Rattle.dac_model_node.specs.laws.Claims.{claims_are, claims_issued}
pub use Rattle.dac_model_node.specs.laws.Counters.{leaves_room}
pub use Rattle.dac_model_node.specs.laws.Options.{some_same}
pub use Rattle.dac_model_node.specs.laws.Steps.{step_accepted}
pub use Rattle.dac_model_world.specs.Causality.{IsPermitOf, IsStartOf, IsDrainOf, EndsStart, IsDotOfOne}
pub use Rattle.dac_model_world.specs.Convergence.{DistinctDots, HoldsSets, state_by, heard_among}
pub use Rattle.dac_model_world.specs.Converges.{Converges}
pub use Rattle.dac_model_world.specs.Fits.{deltas_with}
pub use Rattle.dac_model_world.specs.Histories.{Entry, IsHistory}
pub use Rattle.dac_model_world.specs.Issuing.{AreOwn}
pub use Rattle.dac_model_world.specs.ModelWorld.{start, ModelWorld, happens, happens_by, answered_by, event_of, Step, Run, numbered, RanAs, with_node, Shows, issued_by, shipped_by, out_of_memory, Follows, handed_by, went, world_after, AnsweredAs, IsAnswer}
pub use Rattle.dac_model_world.specs.News.{HasDot}
pub use Rattle.dac_model_world.specs.Records.{own_answer, recorded, records_of}
pub use Rattle.dac_model_world.specs.SetWorld.{SetWorld, set_step, Copy, NodeSet, Issue, with_set, held_by, united, issues_of, is_for, copied_by, copied_to, brought_to, booting, issuing, going_off, set_run, no_sets, operations_of, and_more, alone}
pub use Rattle.dac_model_world.specs.Uniting.{IsPut, Unites, AllUnite}
pub use Rattle.dac_model_world.specs.UpToDate.{HasAll, TellsUpToDate, TellUpToDate}
pub use Rattle.dac_model_world.specs.WorldChanges.{Goes}
pub use Rattle.dac_model_world.specs.WorldValue.{WorldValue}
