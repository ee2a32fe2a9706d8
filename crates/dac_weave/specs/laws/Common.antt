-- The names that several proofs cite, passed on from one place. Declares nothing.
pub use Rattle.std.proofs.lemmas.Bool.{cases_eq}
pub use Rattle.std.proofs.lemmas.List.{length-map, length-set, take_more}
pub use Rattle.std.proofs.lemmas.Map.Views.{exact_unsigned_eq}
pub use Rattle.std.proofs.lemmas.Option.{slice_get_within, slice_get_read, slice_get-map, slice_get-get_or}
pub use Rattle.std.specs.Borrow.{Bor}
pub use Rattle.std.specs.Global.{Vec}
pub use Rattle.std.specs.List.{slice_get, slice_set, AllZip}
pub use Rattle.std.specs.Option.{option_map}
pub use Rattle.std.specs.Prelude.{MatchOption, IsTrue}
pub use Rattle.dac_base.specs.declared.NodeId.{NodeId}
pub use Rattle.dac_config.specs.Table.{Table, node_count}
pub use Rattle.dac_operations.specs.Operations.{Operation}
pub use Rattle.dac_events.specs.declared.What.{What}
pub use Rattle.dac_events.specs.declared.WorldEvent.{WorldEvent}
pub use Rattle.dac_events.specs.declared.refusal.Refusal.{Refusal}
pub use Rattle.dac_messages.specs.declared.event.Event.{Event}
pub use Rattle.dac_messages.specs.declared.message.Message.{Message}
pub use Rattle.dac_messages.specs.declared.reply.Reply.{Reply}
pub use Rattle.dac_journal.specs.EveryList.{run_from}
pub use Rattle.dac_journal.specs.Histories.{off_after}
pub use Rattle.dac_journal.specs.Journals.{JournalValue, entry_of}
pub use Rattle.dac_journal.specs.ModelNode.{ModelNode}
pub use Rattle.dac_journal.specs.ModelWorld.{start, ModelWorld, event_of, happens, counted, WorldStepped, happens_by, answered_by}
pub use Rattle.dac_journal.specs.NodeValue.{NodeValue}
pub use Rattle.dac_journal.specs.Step.{model_step, Steps}
pub use Rattle.dac_journal.specs.WorldFault.{WorldFault}
pub use Rattle.dac_journal.specs.WorldFault.TheVariants.{NoSuchNode}
pub use Rattle.dac_journal.specs.declared.record.Record.{Record}
pub use Rattle.dac_weave.specs.Indexing.{numbers_of, Finds}
pub use Rattle.dac_weave.specs.Labels.{lent}
pub use Rattle.dac_weave.specs.Names.{Begins}
pub use Rattle.dac_weave.specs.Placing.{Weaves, BlockedBetween, IsLeft}
pub use Rattle.dac_weave.specs.Recording.{IsRecorded}
pub use Rattle.dac_weave.specs.Replay.{node_step, node_step_by, replayed, AreAnswered, NodeStepped, moved, Repeats}
pub use Rattle.dac_weave.specs.Woven.{as_seen, as_world_result, Gives, At, IsFirst, Seen, seen_of, seen_in, journal_seen, IsPrefixOf, ReproducesPrefixes, IsUnfit, seen_at}
