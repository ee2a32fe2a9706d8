-- The names that several proofs cite, passed on from one place. Declares nothing.
pub use Rattle.std.proofs.lemmas.Bool.{eq-eqb, false≢true}
pub use Rattle.std.proofs.lemmas.List.{take_more, map_push, length-map}
pub use Rattle.dac_messages.specs.declared.event.Event.{Event}
pub use Rattle.dac_workers.specs.laws.Found.{found_more}
pub use Rattle.dac_crews.specs.Compared.{Linked, found, event_one}
pub use Rattle.dac_crews.specs.Journals.{JournalValue}
pub use Rattle.dac_crews.specs.Record.{Record}
pub use Rattle.dac_phases.specs.Asks.{ask_one}
pub use Rattle.dac_phases.specs.Pairs.{shipper_seat, worker_seat, records_at, AreOfSeats}
pub use Rattle.dac_phases.specs.Phases.{AreParted, PhaseHolds, ArePhased, part_at, FallIntoPhases}
