-- Packets as bytes, in each version. Numbers are written as in `dac_bytes`: big-endian.
use Rattle.std.specs.Prelude.{ℕ, List, [], ◌∷◌, ◌++◌, length, codes, Option, None, Some}
use Rattle.std.specs.List.{flat_map}
use Rattle.dac_origins.specs.declared.dot.Dot.{Dot}
use Rattle.dac_origins.specs.declared.dot.Origin.{Origin}
use Rattle.dac_wishes.specs.DrainsValue.{origin}
use Rattle.dac_config.specs.Canonical.{canonical_text}
use Rattle.dac_config.specs.Mark.{fnv1a}
use Rattle.dac_config.specs.Table.{Table}
use Rattle.dac_bytes.specs.Numbers.{u8_bytes, u16_bytes, u64_bytes}
use Rattle.dac_bytes.specs.Spelling.{dot_bytes, incarnation_bytes, origin_bytes}
use Rattle.dac_part_bytes.specs.Spelling.{app_bytes, key_bytes, manner_bytes}
use Rattle.dac_state.specs.StateSpelling as state
use Rattle.dac_messages.specs.declared.message.Body.{Body}
use Rattle.dac_messages.specs.declared.message.Body.TheVariants.{Whole, Interval, Nothing}
use Rattle.dac_messages.specs.declared.message.Message.{Message}
use Rattle.dac_operations.specs.declared.act.Act.{Act}
use Rattle.dac_operations.specs.declared.act.Act.TheVariants.{Up, Down, Permit, Start, Stop, Drain, Claim}
use Rattle.dac_operations.specs.Operations.{Operation}
use Rattle.dac_wire.specs.Codes.{packet_code, kind_of_packet, act_code, kind_of_act, value_code, only_code}
use Rattle.dac_wire.specs.declared.packet.Packet.{Packet}
use Rattle.dac_wire.specs.declared.packet.Packet.TheVariants as packet
use Rattle.dac_bytes.specs.declared.version.Version.{Version}
use Rattle.dac_bytes.specs.declared.version.Version.TheVariants.{One, Two}

-- ---- the preamble of a packet

-- the format's name
abbrev pub magic : List ℕ
magic = codes "DAC"

-- the byte of a version
abbrev pub version_byte : Version → ℕ
version_byte One = 1
version_byte Two = 2

-- the format's name, followed by the version
abbrev pub name_bytes : Version → List ℕ
name_bytes version = magic ++ (version_byte version ∷ [])

-- the mark of a configuration: the hash of its canonical text
abbrev pub mark_of : Table → ℕ
mark_of t = fnv1a (canonical_text t)

-- the format's name, its version, and the mark of the configuration, in twelve bytes
unfoldable pub preamble_bytes : Version → Table → List ℕ
preamble_bytes version t = name_bytes version ++ u64_bytes (mark_of t)

-- ---- messages

-- the acknowledgement: 0 for none, or 1, an incarnation of the receiver, and its delta count
unfoldable pub ack_bytes : Version → Option (Origin × ℕ) → List ℕ
ack_bytes version None = u8_bytes 0
ack_bytes version (Some ack) = u8_bytes 1 ++ origin_bytes version ack.0 ++ u64_bytes ack.1

-- the state of a message, if any
unfoldable pub body_bytes : Version → Body → List ℕ
body_bytes version (Whole s) = state.state_bytes version s
body_bytes version (Interval s) = state.state_bytes version s
body_bytes version Nothing = []

-- The sender, the node and the incarnation that the message is for, the sender's delta count, its acknowledgement of
-- the receiver's deltas, and the state of the message
unfoldable pub message_bytes : Version → Message → List ℕ
message_bytes version m = origin_bytes version m.from ++ u8_bytes m.to.0 ++ incarnation_bytes version (only_code m.only)
    ++ u64_bytes m.up_to ++ ack_bytes version m.ack ++ body_bytes version m.body

-- ---- operations

-- the number of dots, and these
unfoldable pub over_bytes : Version → List Dot → List ℕ
over_bytes version over = u16_bytes (length over) ++ flat_map (dot_bytes version) over

-- the fields of an act
unfoldable pub act_fields_bytes : Version → Act → List ℕ
act_fields_bytes version Up = []
act_fields_bytes version (Down node inc) = u8_bytes node.0 ++ incarnation_bytes version inc
act_fields_bytes version (Permit key value over) =
    key_bytes version key ++ u8_bytes (value_code value) ++ over_bytes version over
act_fields_bytes version (Start key over) = key_bytes version key ++ over_bytes version over
act_fields_bytes version (Stop key over) = key_bytes version key ++ over_bytes version over
act_fields_bytes version (Drain node inc value over) =
    origin_bytes version (origin node inc) ++ u8_bytes (value_code value) ++ over_bytes version over
act_fields_bytes version (Claim app term how from) = app_bytes app ++ u64_bytes term ++ manner_bytes how from

-- the kind of an act, and its fields
unfoldable pub act_bytes : Version → Act → List ℕ
act_bytes version a = u8_bytes (act_code (kind_of_act a)) ++ act_fields_bytes version a

-- the dot of an operation, and its act
unfoldable pub operation_bytes : Version → Operation → List ℕ
operation_bytes version o = dot_bytes version o.dot ++ act_bytes version o.act

-- ---- packets

-- the fields of a packet after its kind
unfoldable pub content_bytes : Version → Packet → List ℕ
content_bytes version (packet.Msg m) = message_bytes version m
content_bytes version (packet.Single o) = operation_bytes version o

-- The one spelling of a packet in a version, under a configuration.
unfoldable pub packet_bytes : Version → Table → Packet → List ℕ
packet_bytes version t p =
    preamble_bytes version t ++ u8_bytes (packet_code (kind_of_packet p)) ++ content_bytes version p

-- The spelling that is written: that of version two.
abbrev pub spelling_of : Table → Packet → List ℕ
spelling_of = packet_bytes Two
