-- The names that several proofs cite, passed on from one place. Declares nothing.
pub use Rattle.crossbeam_channel.specs.Claims.{view}
pub use Rattle.std.proofs.lemmas.Bool.{false≢true, eqb-true, eq-eqb}
pub use Rattle.std.proofs.lemmas.List.{length-map}
pub use Rattle.dac_messages.specs.declared.event.Event.TheVariants.{Ship, Hear}
pub use Rattle.dac_messages.specs.declared.message.Message.{Message}
unfoldable pub use Rattle.dac_wire.specs.Decoding.{packet_at}
pub use Rattle.dac_sites.specs.Added.{CallAdded}
pub use Rattle.dac_workers.specs.Compared.{found, event_one, sent_one}
pub use Rattle.dac_workers.specs.Letters.{IsLetterOf}
pub use Rattle.dac_workers.specs.Links.{ships_to, Ships, Hears}
