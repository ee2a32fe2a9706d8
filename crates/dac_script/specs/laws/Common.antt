-- The names that several proofs cite, passed on from one place. Declares nothing.
pub use Rattle.std.proofs.Math.Seq.{take-append_seam}
pub use Rattle.std.proofs.lemmas.Bool.{cond_both, false≢true, eqb-true, ltb-true, and_from, and_parts, cond-true, eq-eqb, ne_eqb, not_from_false, cases_eq, not-true}
pub use Rattle.std.proofs.lemmas.Bool.Decides.{nat_tests}
pub use Rattle.std.proofs.lemmas.Fmt.{decimal_digit}
pub use Rattle.std.proofs.lemmas.List.{get_or_at, take_at, take_all, length-drop, length-map}
pub use Rattle.std.proofs.lemmas.List.Elements.{All-push, filter-append, All-tail, All-cons, All-head, All-nil}
pub use Rattle.std.proofs.lemmas.List.Splits.{join_with_byte-slice_split, slice_split_none, slice_split_at, slice_split-cons_yes}
pub use Rattle.std.proofs.lemmas.List.Sums.{AllPass-from_list_all, list_all-from_AllPass}
pub use Rattle.std.proofs.lemmas.Option.{same_Some, none-some, cond_some}
pub use Rattle.std.proofs.lemmas.Result.{err_from_is_err_and}
pub use Rattle.std.proofs.lemmas.Slice.Eq.{bytes_eq-Decides}
pub use Rattle.std.specs.Borrow.{Bor}
pub use Rattle.std.specs.Char.{is_ascii_digit}
pub use Rattle.std.specs.Cmp.Lexicographic.{same_text, other_text}
pub use Rattle.std.specs.Io.KnownBytes.{Consumes}
pub use Rattle.std.specs.List.{AllZip, join_with_byte, list_all, slice_split}
pub use Rattle.std.specs.Option.{MatchOption}
pub use Rattle.std.specs.Prelude.{IfNone, option_map}
pub use Rattle.std.specs.Result.{MatchResult}
pub use Rattle.std.specs.Str.{bytes_eq}
pub use Rattle.dac_base.specs.declared.NodeId.{NodeId}
pub use Rattle.dac_tokens.specs.Digits.{value_from}
pub use Rattle.dac_config.specs.Table.{Table, node_count, node_named}
pub use Rattle.dac_events.specs.declared.What.{What}
pub use Rattle.dac_script.specs.Forms.{Slot, AllTell, Spells}
pub use Rattle.dac_script.specs.Forms.Slot.{Word, Node, Number, About, App, Flag}
pub use Rattle.dac_script.specs.Input.{divider, with_feeds, IsParted}
pub use Rattle.dac_script.specs.Inputs.{IsInputFailure}
pub use Rattle.dac_script.specs.LineFaults.{IsFaultless, IsLeast, AreWrong, roles_of, IsNoHex}
pub use Rattle.dac_script.specs.LiveCallers.{caller_of, with_caller}
pub use Rattle.dac_script.specs.LiveFaults.{plain_roles}
pub use Rattle.dac_script.specs.LiveForms.{SpellsLive}
pub use Rattle.dac_script.specs.Script.{lines_of, is_said, IsScriptFailure, IsReading}
pub use Rattle.dac_script.specs.Values.{least_of, slot_of}
pub use Rattle.dac_script.specs.Words.{words_of, name_in, number_in, bytes_in}
pub use Rattle.dac_script.specs.declared.failure.Failure.{Failure}
pub use Rattle.dac_script.specs.declared.fault.ScriptFaultKind.{ScriptFaultKind}
pub use Rattle.dac_script.specs.declared.fault.ScriptFaultKind.TheVariants.{BadWord, BadNumber}
pub use Rattle.dac_script.specs.declared.input.TheConstants.{MAX_INPUT}
pub use Rattle.dac_script.specs.declared.line.ScriptLine.{ScriptLine}
pub use Rattle.dac_script.specs.declared.live_line.LiveLine.TheVariants.{Feed, Phase}
pub use Rattle.dac_script.specs.declared.verb.Role.{Role}
pub use Rattle.dac_script.specs.declared.words.TheConstants.{MAX_NUMBER}
