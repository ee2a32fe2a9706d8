-- The names that several proofs cite, passed on from one place. Declares nothing.
pub use Rattle.std.proofs.lemmas.Map.Lookups.{CmpEqualImpliesEq}
pub use Rattle.std.proofs.lemmas.Map.Views.{exact_unsigned_eq}
pub use Rattle.std.specs.Cmp.{IsTotalOrder}
pub use Rattle.std.specs.FinMap.{find}
pub use Rattle.std.specs.List.{AllByRecursion, slice_get}
pub use Rattle.std.specs.Option.{option_map}
pub use Rattle.std.specs.Ordering.{eq_by_cmp}
pub use Rattle.std.specs.Prelude.{nat_lt, ◌&&◌}
pub use Rattle.std.specs.declared.cmp.Ordering.{Ordering}
pub use Rattle.dac_base.specs.Ids.{node_cmp}
pub use Rattle.dac_base.specs.Limits.{the_limits}
pub use Rattle.dac_base.specs.declared.AppId.{AppId}
pub use Rattle.dac_base.specs.declared.NodeId.{NodeId}
pub use Rattle.dac_base.specs.declared.limits.TheConstants.{MAX_COUNTER, MAX_NODES, MAX_APPS}
pub use Rattle.dac_base.specs.laws.Ids.{nodes_total, exact_nodes}
pub use Rattle.dac_config.specs.Table.{Table, node_count, app_count}
pub use Rattle.dac_origins.specs.Dots.{dot, dot_cmp, IsNext, Dots, origin_cmp}
unfoldable pub use Rattle.dac_origins.specs.InOrder.{in_order}
pub use Rattle.dac_origins.specs.Keys.{has_key}
pub use Rattle.dac_origins.specs.declared.dot.Dot.{Dot}
pub use Rattle.dac_origins.specs.declared.dot.Origin.{Origin}
pub use Rattle.dac_origins.specs.laws.Dots.{dots_total, exact_dots, origins_total, exact_origins}
pub use Rattle.dac_dots.specs.Rows.{Row}
unfoldable pub use Rattle.dac_dots.specs.Rows.{rows_of, dots_in, dots_in_row, one_to}
pub use Rattle.dac_dots.specs.laws.RowSets.{kept_are}
pub use Rattle.dac_lattice.specs.declared.flags.Flag.{Flag}
pub use Rattle.dac_chains.specs.declared.claims.How.{How}
pub use Rattle.dac_chains.specs.declared.lives.Life.{Life}
pub use Rattle.dac_wishes.specs.Keys.{key_cmp}
pub use Rattle.dac_wishes.specs.StartsByKey.{AreStarts}
pub use Rattle.dac_wishes.specs.StoredVotes.{DotFlags, AreKeyedVotes}
unfoldable pub use Rattle.dac_wishes.specs.StoredVotes.{votes_of}
unfoldable pub use Rattle.dac_wishes.specs.StoredWishes.{writes_of}
pub use Rattle.dac_wishes.specs.Writes.{write, Write}
pub use Rattle.dac_wishes.specs.declared.key.Key.{Key}
pub use Rattle.dac_wishes.specs.laws.Keys.{keys_total, exact_keys}
pub use Rattle.dac_wishes.specs.laws.StartsByKey.{dots_stored, starts_again}
pub use Rattle.dac_wishes.specs.laws.VotesByKey.{votes_again, votes_stored}
pub use Rattle.dac_wishes.specs.laws.Writes.{writes_total, exact_writes}
pub use Rattle.dac_operations.specs.Operations.{Operation, operation, has_bad_over, fault_of, over_list}
pub use Rattle.dac_operations.specs.declared.act.Act.{Act}
pub use Rattle.dac_operations.specs.declared.act.Act.TheVariants.{Claim, Up}
pub use Rattle.dac_meaning.specs.Meaning.{IsOperationOf, DotsDetermine, heard_of, known_of, permits_of, starts_of, is_replaced}
unfoldable pub use Rattle.dac_meaning.specs.Meaning.{meaning_of}
pub use Rattle.dac_meaning.specs.StateValue.{StateValue}
pub use Rattle.dac_bytes.specs.Ranges.{IsIncarnation, IsOrigin, IsDot, InRange}
pub use Rattle.dac_bytes.specs.declared.version.Version.TheVariants.{Two}
pub use Rattle.dac_part_bytes.specs.ChainForm.{IsConsistentOrigin}
pub use Rattle.dac_part_bytes.specs.KeyedForm.{IsKey}
pub use Rattle.dac_part_bytes.specs.Reading.{is_listed}
pub use Rattle.dac_state.specs.StateForm.{IsInForm}
pub use Rattle.dac_decide.specs.FailoverWait.{Note, waits_of}
pub use Rattle.dac_events.specs.declared.WorldEvent.{WorldEvent}
pub use Rattle.dac_events.specs.declared.refusal.Refusal.TheVariants.{UnknownNode, UpToDate}
pub use Rattle.dac_messages.specs.declared.event.Event.{Event}
pub use Rattle.dac_messages.specs.declared.event.Event.TheVariants.{Boot, Crash, Tick, Ship, Hear, HearOp}
pub use Rattle.dac_messages.specs.declared.message.Body.{Body}
pub use Rattle.dac_messages.specs.declared.message.Body.TheVariants.{Whole, Interval, Nothing}
pub use Rattle.dac_messages.specs.declared.message.Message.{Message}
pub use Rattle.dac_wire.specs.Form.{IsOperation, AreOver, IsAct}
pub use Rattle.dac_peers.specs.declared.positions.Position.{Position}
pub use Rattle.dac_commands.specs.Causes.{no_node}
pub use Rattle.dac_commands.specs.Commands.{next_operation}
pub use Rattle.dac_commands.specs.laws.Terms.{next_term_only}
pub use Rattle.dac_commands.specs.laws.Written.{none_is}
pub use Rattle.dac_model_node.specs.EventRefusals.{refusal_on, refusal_of}
pub use Rattle.dac_model_node.specs.ModelNode.{ModelRunning, joined, running_shown, ModelNode, shown}
pub use Rattle.dac_model_node.specs.Step.{up, step_by, comes_up, transition_on}
pub use Rattle.dac_model_node.specs.Transitions.{message_of, Transition, note_of}
pub use Rattle.dac_model_node.specs.laws.Options.{some_same}
pub use Rattle.dac_model_world.specs.ModelWorld.{InEachRun, ModelWorld, Run, start, happens, answered_by, shipped_by}
pub use Rattle.dac_model_world.specs.laws.Operations.{Agree-within, DistinctDots-agree}
pub use Rattle.dac_in_form.specs.HeldForm.{BodyFits, HeldAreInForm}
pub use Rattle.dac_in_form.specs.InForm.{AreInForm, StateFits, IsSmall, ContextFits, VotesFit, StartsFit}
pub use Rattle.dac_in_form.specs.Issued.{RunIsInForm}
pub use Rattle.dac_in_form.specs.WorkedState.{first_origin, second_origin, worked_table}
