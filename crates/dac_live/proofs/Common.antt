-- The names that several proofs cite, passed on from one place. Declares nothing.
pub use Rattle.std.proofs.lemmas.List.{take_more, length-take-le, map_push}
pub use Rattle.std.proofs.lemmas.Slice.Zip.{AllZip-long}
pub use Rattle.std.specs.List.{AllWithin}
pub use Rattle.std.specs.Prelude.{option_to_list}
pub use Rattle.dac_events.specs.declared.refusal.Refusal.{Refusal}
pub use Rattle.dac_messages.specs.declared.reply.Reply.{Reply}
pub use Rattle.dac_journal.specs.NodeValue.{NodeValue}
pub use Rattle.dac_journal.specs.Step.{Steps}
pub use Rattle.dac_pages.specs.declared.page.Page.{Page}
pub use Rattle.dac_sites.specs.laws.Pages.{page_there}
pub use Rattle.dac_workers.specs.laws.Found.{found_more}
pub use Rattle.dac_crews.specs.Compared.{found}
pub use Rattle.dac_crews.specs.Journals.{calls_of, beginning_of}
pub use Rattle.dac_crews.specs.Record.{Record}
pub use Rattle.dac_crews.specs.declared.phases.Line.{Line}
pub use Rattle.dac_crews.specs.declared.phases.Phase.{Phase}
pub use Rattle.dac_phases.specs.Pairs.{records_at}
pub use Rattle.dac_phases.specs.laws.Spoken.{all_zip_next, flat_more, zip_within, zip_at, zip_all, all_zip_at, found_on}
pub use Rattle.dac_live.specs.Asked.{answer_one}
pub use Rattle.dac_live.specs.Following.{spans_from, Follows}
pub use Rattle.dac_live.specs.Lines.{LinesAnswered, Answers, told_in, told_one, HasLines}
pub use Rattle.dac_live.specs.Nodes.{IsTrueOf, journal_at}
pub use Rattle.dac_live.specs.Reads.{receipt_after, FollowsReceipts, IsPageOf, pages_read, pages_in, page_one, own_in, own_of, own_one}
pub use Rattle.dac_live.specs.declared.report.LineAnswer.{LineAnswer}
