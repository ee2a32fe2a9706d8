-- Messages as letters.
use Rattle.std.specs.Prelude.{◌≡◌, ℕ, List, Option, Some, Ok}
use Rattle.dac_config.specs.Table.{Table}
use Rattle.dac_messages.specs.declared.message.Message.{Message}
use Rattle.dac_wire.specs.declared.packet.Packet.TheVariants.{Msg}
use Rattle.dac_wire.specs.Spelling.{spelling_of}
use Rattle.dac_wire.specs.Decoding.{packet_at}

-- the letter contains the message's bytes, which decode to the message
pub record IsLetterOf (t : Table) (message : Message) (letter : Option (List ℕ)) : Type 0 where
  pub bytes : letter ≡ Some (spelling_of t (Msg message))
  pub reads : packet_at t (spelling_of t (Msg message)) ≡ Ok (Msg message)
