-- Well-formed packets: those that bytes of a version can spell under a configuration.
use Rattle.std.specs.Prelude.{◌≡◌, ℕ, ◌<◌, ◌≤◌, ◌^◌, Bool, true, false, List, length, Option, None, Some}
use Rattle.std.specs.List.{AllByRecursion}
use Rattle.dac_base.specs.declared.NodeId.{NodeId}
use Rattle.dac_base.specs.declared.AppId.{AppId}
use Rattle.dac_base.specs.declared.limits.TheConstants.{MAX_COUNTER}
use Rattle.dac_chains.specs.declared.claims.How.{How}
use Rattle.dac_origins.specs.declared.dot.Dot.{Dot}
use Rattle.dac_origins.specs.declared.dot.Origin.{Origin}
use Rattle.dac_origins.specs.Dots.{dot_cmp}
use Rattle.dac_origins.specs.Keys.{IsRising}
use Rattle.dac_wishes.specs.DrainsValue.{origin}
use Rattle.dac_config.specs.Table.{Table, node_count, app_count}
use Rattle.dac_bytes.specs.Ranges.{IsIncarnation, IsOrigin, IsDot}
use Rattle.dac_part_bytes.specs.ChainForm.{IsConsistentOrigin}
use Rattle.dac_part_bytes.specs.KeyedForm.{IsKey}
use Rattle.dac_part_bytes.specs.Reading.{is_listed}
use Rattle.dac_state.specs.StateForm.{IsInForm}
use Rattle.dac_messages.specs.declared.message.Body.{Body}
use Rattle.dac_messages.specs.declared.message.Body.TheVariants.{Whole, Interval, Nothing}
use Rattle.dac_messages.specs.declared.message.Message.{Message}
use Rattle.dac_operations.specs.declared.act.Act.{Act}
use Rattle.dac_operations.specs.declared.act.Act.TheVariants.{Up, Down, Permit, Start, Stop, Drain, Claim}
use Rattle.dac_operations.specs.Operations.{Operation, fault_of}
use Rattle.dac_wire.specs.Codes.{IsKindIn, kind_of_act}
use Rattle.dac_wire.specs.declared.packet.Packet.{Packet}
use Rattle.dac_wire.specs.declared.packet.Packet.TheVariants as packet
use Rattle.dac_bytes.specs.declared.version.Version.{Version}

-- ---- messages

-- whether a message contains a whole state
abbrev pub is_whole : Body → Bool
is_whole (Whole s) = true
is_whole (Interval s) = false
is_whole Nothing = false

-- a message with a whole state is for any incarnation, and any other for one only
abbrev pub IsOnly : Version → Bool → Option ℕ → Type 0
IsOnly version true only = only ≡ None
IsOnly version false only = (inc : ℕ) × (only ≡ Some inc) × IsIncarnation version inc

-- an acknowledgement, if any, has an incarnation of an existing node, and a count in range
abbrev pub IsAck : Version → ℕ → Option (Origin × ℕ) → Type 0
IsAck version nodes None = Unit {0}
IsAck version nodes (Some ack) = IsOrigin version nodes ack.0 × (ack.1 ≤ MAX_COUNTER)

-- the state of a message, if any, is well-formed
abbrev pub IsBodyInForm : Version → Table → Body → Type 0
IsBodyInForm version t (Whole s) = IsInForm version t s
IsBodyInForm version t (Interval s) = IsInForm version t s
IsBodyInForm version t Nothing = Unit {0}

-- a message is well-formed
pub record IsMessage (version : Version) (t : Table) (m : Message) : Type 0 where
  pub from : IsOrigin version (node_count t) m.from
  pub to : m.to.0 < node_count t
  pub only : IsOnly version (is_whole m.body) m.only
  pub up_to : m.up_to ≤ MAX_COUNTER
  pub ack : IsAck version (node_count t) m.ack
  pub body : IsBodyInForm version t m.body

-- ---- operations

-- dots in range, in ascending order, whose number fits its field
pub record AreOver (version : Version) (nodes : ℕ) (over : List Dot) : Type 0 where
  pub each : AllByRecursion (IsDot version nodes) over
  pub rising : IsRising dot_cmp over
  pub count : length over < 2 ^ 16

-- a claim by a node in the application's list
pub record IsClaimInForm (t : Table) (issuer : NodeId) (claimed : AppId) (number : ℕ) (how : How)
    (taken : Option NodeId) : Type 0 where
  pub app : claimed.0 < app_count t
  -- the term can be issued
  pub first : 1 ≤ number
  pub last : number ≤ MAX_COUNTER
  -- the node is in the application's list
  pub listed : is_listed t claimed issuer ≡ true
  pub from : IsConsistentOrigin (node_count t) how taken

-- the act, issued by a node, is well-formed
abbrev pub IsAct : Version → Table → NodeId → Act → Type 0
IsAct version t issuer Up = Unit {0}
IsAct version t issuer (Down node inc) = (node.0 < node_count t) × IsIncarnation version inc
IsAct version t issuer (Permit key value over) = IsKey version t key × AreOver version (node_count t) over
IsAct version t issuer (Start key over) = IsKey version t key × AreOver version (node_count t) over
IsAct version t issuer (Stop key over) = IsKey version t key × AreOver version (node_count t) over
IsAct version t issuer (Drain node inc value over) =
    IsOrigin version (node_count t) (origin node inc) × AreOver version (node_count t) over
IsAct version t issuer (Claim app term how from) = IsClaimInForm t issuer app term how from

-- an operation is well-formed
pub record IsOperation (version : Version) (t : Table) (o : Operation) : Type 0 where
  pub dot : IsDot version (node_count t) o.dot
  -- a kind of act that the version has
  pub kind : IsKindIn version (kind_of_act o.act)
  pub act : IsAct version t o.dot.origin.node o.act
  -- dot and act make an operation
  pub sound : fault_of o.dot o.act ≡ None

-- ---- packets

-- Bytes of the version can spell the names, list places, numbers, orders and counts of the packet.
abbrev pub IsPacket : Version → Table → Packet → Type 0
IsPacket version t (packet.Msg m) = IsMessage version t m
IsPacket version t (packet.Single o) = IsOperation version t o
