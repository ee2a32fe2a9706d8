-- The names that several proofs cite, passed on from one place. Declares nothing.
pub use Rattle.std.proofs.lemmas.List.{take_more}
pub use Rattle.dac_base.specs.declared.NodeId.{NodeId}
pub use Rattle.dac_config.specs.Table.{Table}
pub use Rattle.dac_messages.specs.declared.event.Event.{Event}
pub use Rattle.dac_journal.specs.Histories.{off_after}
pub use Rattle.dac_journal.specs.Journals.{Beginning, calls_of, beginning_of, DifferAt}
pub use Rattle.dac_journal.specs.Keeping.{leaves_state}
pub use Rattle.dac_journal.specs.ModelNode.{ModelNode, shown}
pub use Rattle.dac_journal.specs.NodeValue.{NodeValue}
pub use Rattle.dac_journal.specs.Step.{model_step}
pub use Rattle.dac_journal.specs.declared.record.Record.{Record}
pub use Rattle.dac_pages.specs.declared.page.Page.{Page}
pub use Rattle.dac_sites.specs.Paged.{brought, node_after, page_after, page_of}
pub use Rattle.dac_sites.specs.Replayed.{GoesOn}
pub use Rattle.dac_sites.specs.Seats.{SeatValue, IsOneOf}
