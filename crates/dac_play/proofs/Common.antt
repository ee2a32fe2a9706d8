-- The names that several proofs cite, passed on from one place. Declares nothing.
pub use Rattle.hex.specs.Hex.{encode_lower, lower_digits}
pub use Rattle.std.proofs.lemmas.Bool.{eqb-true, false≢true, lt-ltb}
pub use Rattle.std.proofs.lemmas.List.{length-append, take_all}
pub use Rattle.std.specs.Option.{option_and_then, option_map}
pub use Rattle.std.specs.Prelude.{◌≢◌, not, IfOk, OnOk, fold}
pub use Rattle.std.specs.Result.{is_ok}
pub use Rattle.dac_base.specs.declared.NodeId.{NodeId}
pub use Rattle.dac_config.specs.Table.{Table, node_count}
pub use Rattle.dac_meaning.specs.StateValue.{StateValue}
pub use Rattle.dac_events.specs.declared.WorldEvent.{WorldEvent}
pub use Rattle.dac_messages.specs.declared.reply.Reply.{Reply}
pub use Rattle.dac_model_world.specs.SetWorld.{set_run, no_sets}
pub use Rattle.dac_core.specs.ModelWorld.{Shows, Done, Lacked, out_of_memory, numbered}
pub use Rattle.dac_core.specs.WorldValue.{WorldValue}
pub use Rattle.dac_script.specs.declared.line.ScriptLine.{ScriptLine}
pub use Rattle.dac_play.specs.Pairs.{pairs_of, pairs, IsListed, TellsEachOther}
pub use Rattle.dac_play.specs.Play.{state_at, after_line, HasState}
pub use Rattle.dac_play.specs.Runs.{deliveries, telling}
pub use Rattle.dac_play.specs.Sharing.{shipping, delivered, after_telling, having_state, delivery, Leads}
