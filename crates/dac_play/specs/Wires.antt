-- The lines for bytes of messages.
use Rattle.std.specs.Prelude.{ℕ, List, ◌++◌, length, nat_lt, Option, None, Some, Result, Ok, Err, codes, if◌then◌else◌}
use Rattle.std.specs.Fmt.{decimal}
use Rattle.dac_config.specs.Table.{Table}
use Rattle.dac_messages.specs.declared.message.Message.{Message}
use Rattle.dac_wire.specs.Faults.{number_of, name_of}
use Rattle.dac_wire.specs.Spelling.{spelling_of}
use Rattle.dac_wire.specs.declared.fault.WireFault.{WireFault}
use Rattle.dac_wire.specs.declared.fault.WireFaultKind.TheVariants.{TooLong}
use Rattle.dac_wire.specs.declared.packet.Packet.{Packet}
use Rattle.dac_wire.specs.declared.packet.Packet.TheVariants.{Msg}
use Rattle.dac_wire.specs.declared.packet.TheConstants.{MAX_MESSAGE}
use Rattle.dac_play.specs.Texts.{hex_text, no_message_text}

-- bytes that encode a message or an operation
abbrev pub wire_ok_text : List ℕ
wire_ok_text = codes "wire ok\n"

-- a fault of bytes: its number, name and place
abbrev pub wire_fault_text : WireFault → List ℕ
wire_fault_text fault =
    codes "wire fault " ++ (decimal (number_of fault.kind) ++ (codes " " ++ (name_of fault.kind ++ (codes " at " ++ (decimal fault.at ++ codes "\n")))))

-- the fault of more bytes than a message can have
abbrev pub too_long : WireFault
too_long = record { kind = TooLong; at = MAX_MESSAGE }

-- the bytes of a message, or that they are too many
abbrev pub spelled_text : List ℕ → List ℕ
spelled_text bytes = if nat_lt MAX_MESSAGE (length bytes) then wire_fault_text too_long else hex_text bytes

-- the message with this number, or that there is none
abbrev pub message_text : Table → ℕ → Option Message → List ℕ
message_text table number None = no_message_text number
message_text table number (Some message) = spelled_text (spelling_of table (Msg message))

-- the result of parsing bytes
abbrev pub fed_text : Result Packet WireFault → List ℕ
fed_text (Ok packet) = wire_ok_text
fed_text (Err fault) = wire_fault_text fault
