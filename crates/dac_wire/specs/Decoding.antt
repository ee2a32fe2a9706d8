-- Decoding a packet: the fault in its front, if any, otherwise the result of reading its fields.
use Rattle.std.specs.Prelude.{ℕ, List, length, not, nat_lt, nat_eq, Option, None, Some, Result, Err, if◌then◌else◌}
use Rattle.std.specs.List.{starts_with}
use Rattle.dac_config.specs.Table.{Table}
use Rattle.dac_bytes.specs.Reading.{after, whole}
use Rattle.dac_bytes.specs.declared.version.Version.{Version}
use Rattle.dac_bytes.specs.declared.version.Version.TheVariants.{One, Two}
use Rattle.dac_wire.specs.declared.coding.TheConstants.{PREAMBLE}
use Rattle.dac_wire.specs.declared.fault.WireFault.{WireFault}
use Rattle.dac_wire.specs.declared.fault.WireFaultKind.{WireFaultKind}
use Rattle.dac_wire.specs.declared.fault.WireFaultKind.TheVariants.{TooLong, BadMagic, BadVersion, OtherConfig, Short}
use Rattle.dac_wire.specs.declared.packet.TheConstants.{MAX_MESSAGE}
use Rattle.dac_wire.specs.declared.packet.Packet.{Packet}
use Rattle.dac_wire.specs.Faults.{in_packet}
use Rattle.dac_wire.specs.Reading.{fields_at}
use Rattle.dac_wire.specs.Spelling.{magic, name_bytes, preamble_bytes}

-- a fault of this kind at this offset
abbrev pub wrong : WireFaultKind → ℕ → Option WireFault
wrong kind at = Some (record { kind = kind; at = at })

-- The first fault in the front of bytes of a version, if any: too many bytes, another format's name, another version,
-- an incomplete mark, or another mark.
unfoldable pub preamble_fault : Version → Table → List ℕ → Option WireFault
preamble_fault version t bytes =
    if nat_lt MAX_MESSAGE (length bytes) then wrong TooLong MAX_MESSAGE
    else if not (starts_with nat_eq bytes magic) then wrong BadMagic 0
    else if not (starts_with nat_eq bytes (name_bytes version)) then wrong BadVersion 3
    else if nat_lt (length bytes) PREAMBLE then wrong Short 4
    else if not (starts_with nat_eq bytes (preamble_bytes version t)) then wrong OtherConfig 4
    else None

-- the fault, if any, otherwise the result of reading
abbrev pub unless : {X : Type 0} → Option WireFault → Result X WireFault → Result X WireFault
unless None read = read
unless (Some e) read = Err e

-- The packet that bytes of a version spell under a configuration, or the first fault.
unfoldable pub packet_in : Version → Table → List ℕ → Result Packet WireFault
packet_in version t bytes =
    unless (preamble_fault version t bytes) (in_packet (fields_at version t (after PREAMBLE (whole bytes))))

-- The version by which bytes are read: one if they name it, otherwise two.
unfoldable pub version_in : List ℕ → Version
version_in bytes = if starts_with nat_eq bytes (name_bytes One) then One else Two

-- The packet that the bytes spell under a configuration, or the first fault.
unfoldable pub packet_at : Table → List ℕ → Result Packet WireFault
packet_at t bytes = packet_in (version_in bytes) t bytes
