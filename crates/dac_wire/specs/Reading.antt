-- Reading the fields of a packet of a version from left to right, up to the first fault.
use Rattle.std.specs.Prelude.{ℕ, zero, suc, Bool, true, false, List, length, Option, None, Some, is_none, Result, Ok, nat_lt, ◌==◌, if◌then◌else◌}
use Rattle.std.specs.Int.{w8, w16, w64}
use Rattle.dac_base.specs.declared.NodeId.{NodeId}
use Rattle.dac_base.specs.declared.AppId.{AppId}
use Rattle.dac_base.specs.declared.limits.TheConstants.{MAX_COUNTER}
use Rattle.dac_chains.specs.declared.claims.How.{How}
use Rattle.dac_origins.specs.declared.dot.Dot.{Dot}
use Rattle.dac_origins.specs.declared.dot.Origin.{Origin}
use Rattle.dac_wishes.specs.declared.key.Key.{Key}
use Rattle.dac_config.specs.Table.{Table, node_count, app_count}
use Rattle.dac_bytes.specs.declared.fault.ReadFault.{ReadFault}
use Rattle.dac_bytes.specs.declared.fault.ReadFaultKind.TheVariants.{BadNumber, NotInList, Trailing}
use Rattle.dac_bytes.specs.Reading.{Rest, Field, fault, ◌>>=◌, number_at, range_at, node_at, incarnation_or_zero_at, counter_at, origin_at, dot_at, dot_above_at, counted_at}
use Rattle.dac_part_bytes.specs.Reading.{app_at, key_above_at, manner_at, is_listed}
use Rattle.dac_meaning.specs.StateValue.{StateValue}
use Rattle.dac_state.specs.StateReading.{parts_at}
use Rattle.dac_messages.specs.declared.message.Body.{Body}
use Rattle.dac_messages.specs.declared.message.Body.TheVariants.{Whole as WholeBody, Interval as IntervalBody, Nothing as NoBody}
use Rattle.dac_messages.specs.declared.message.Message.{Message}
use Rattle.dac_operations.specs.declared.act.Act.{Act}
use Rattle.dac_operations.specs.declared.act.Act.TheVariants.{Up as UpAct, Down as DownAct, Permit as PermitAct, Start as StartAct, Stop as StopAct, Drain as DrainAct, Claim as ClaimAct}
use Rattle.dac_operations.specs.Operations.{Operation, operation, fault_of}
use Rattle.dac_wire.specs.Codes.{packet_of_code, highest_act, act_of_code, value_of_code, only_of_code}
use Rattle.dac_wire.specs.declared.codes.PacketKind.{PacketKind}
use Rattle.dac_wire.specs.declared.codes.PacketKind.TheVariants.{Whole, Interval, Nothing, Single}
use Rattle.dac_wire.specs.declared.codes.ActKind.{ActKind}
use Rattle.dac_wire.specs.declared.codes.ActKind.TheVariants.{Up, Down, Permit, Start, Stop, Claim, Drain}
use Rattle.dac_wire.specs.declared.head.Head.{Head}
use Rattle.dac_wire.specs.declared.packet.Packet.{Packet}
use Rattle.dac_wire.specs.declared.packet.Packet.TheVariants as packet
use Rattle.dac_bytes.specs.declared.version.Version.{Version}

-- ---- the head of a message

-- the sender, and the node that the message is for
unfoldable pub sender_and_receiver_at : Version → ℕ → Rest → Field (Origin × NodeId)
sender_and_receiver_at version nodes r = do
  from ← origin_at version nodes r
  to ← node_at nodes from.1
  Ok ((from.0, to.0), to.1)

-- whether the code is 0 exactly for a message with a whole state
abbrev pub is_only_of : Bool → ℕ → Bool
is_only_of true n = n == 0
is_only_of false n = nat_lt 0 n

-- the code of the incarnation that the message is for
unfoldable pub only_code_at : Version → Bool → Rest → Field ℕ
only_code_at version whole r = do
  n ← incarnation_or_zero_at version r
  if is_only_of whole n.0 then Ok n else fault BadNumber r

-- the only incarnation that the message is for, if any
unfoldable pub only_at : Version → Bool → Rest → Field (Option ℕ)
only_at version whole r = do
  n ← only_code_at version whole r
  Ok (only_of_code n.0, n.1)

-- a delta count, up to 2^62
abbrev pub deltas_at : Rest → Field ℕ
deltas_at r = range_at w64 0 MAX_COUNTER r

-- an incarnation and its delta count
unfoldable pub got_at : Version → ℕ → Rest → Field (Origin × ℕ)
got_at version nodes r = do
  origin ← origin_at version nodes r
  n ← deltas_at origin.1
  Ok ((origin.0, n.0), n.1)

-- the acknowledgement, if the code announces one
unfoldable pub acked_if_at : Version → ℕ → ℕ → Rest → Field (Option (Origin × ℕ))
acked_if_at version nodes zero r = Ok (None, r)
acked_if_at version nodes (suc n) r = do
  got ← got_at version nodes r
  Ok (Some got.0, got.1)

-- the acknowledgement of the receiver's deltas, if any
unfoldable pub ack_at : Version → ℕ → Rest → Field (Option (Origin × ℕ))
ack_at version nodes r = do
  code ← range_at w8 0 1 r
  ack ← acked_if_at version nodes code.0 code.1
  Ok (ack.0, ack.1)

-- the sender's delta count, and its acknowledgement
unfoldable pub counts_at : Version → ℕ → Rest → Field (ℕ × Option (Origin × ℕ))
counts_at version nodes r = do
  up_to ← deltas_at r
  ack ← ack_at version nodes up_to.1
  Ok ((up_to.0, ack.0), ack.1)

-- the incarnation that the message is for, and the counts
unfoldable pub only_and_counts_at : Version → ℕ → Bool → Rest → Field (Option ℕ × (ℕ × Option (Origin × ℕ)))
only_and_counts_at version nodes whole r = do
  only ← only_at version whole r
  counts ← counts_at version nodes only.1
  Ok ((only.0, counts.0), counts.1)

-- the head of a message, given its fields
abbrev pub head_of : Origin × NodeId → Option ℕ × (ℕ × Option (Origin × ℕ)) → Head
head_of route bound = record { from = route.0; to = route.1; only = bound.0; up_to = bound.1.0; ack = bound.1.1 }

-- a message without its state
unfoldable pub head_at : Version → ℕ → Bool → Rest → Field Head
head_at version nodes whole r = do
  route ← sender_and_receiver_at version nodes r
  bound ← only_and_counts_at version nodes whole route.1
  Ok (head_of route.0 bound.0, bound.1)

-- ---- operations

-- the dots that an act replaces, each greater than the previous one
unfoldable pub over_at : Version → ℕ → Rest → Field (List Dot)
over_at version nodes r = counted_at (number_at w16) (dot_above_at version nodes) (λ (d : Dot). d) r

-- a key, and the dots that an act replaces
unfoldable pub keyed_over_at : Version → Table → Rest → Field (Key × List Dot)
keyed_over_at version t r = do
  key ← key_above_at version t None r
  over ← over_at version (node_count t) key.1
  Ok ((key.0, over.0), over.1)

-- the value of a permit or a drain, and the dots that it replaces
unfoldable pub valued_over_at : Version → ℕ → Rest → Field (Bool × List Dot)
valued_over_at version nodes r = do
  code ← range_at w8 0 1 r
  over ← over_at version nodes code.1
  Ok ((value_of_code code.0, over.0), over.1)

-- a key, the value of a permit, and the dots that it replaces
unfoldable pub permit_fields_at : Version → Table → Rest → Field (Key × (Bool × List Dot))
permit_fields_at version t r = do
  key ← key_above_at version t None r
  valued ← valued_over_at version (node_count t) key.1
  Ok ((key.0, valued.0), valued.1)

-- an incarnation of a node, the value of a drain, and the dots that it replaces
unfoldable pub drain_fields_at : Version → Table → Rest → Field (Origin × (Bool × List Dot))
drain_fields_at version t r = do
  at ← origin_at version (node_count t) r
  valued ← valued_over_at version (node_count t) at.1
  Ok ((at.0, valued.0), valued.1)

-- an application, a term, and how the application came to its node
abbrev pub ClaimFields : Type 0
ClaimFields = AppId × (ℕ × (How × Option NodeId))

-- a term, and how the application came to its node
unfoldable pub term_and_manner_at : ℕ → Rest → Field (ℕ × (How × Option NodeId))
term_and_manner_at nodes r = do
  term ← counter_at r
  manner ← manner_at nodes term.1
  Ok ((term.0, manner.0), manner.1)

-- the fields of a claim
unfoldable pub claim_fields_at : Table → Rest → Field ClaimFields
claim_fields_at t r = do
  app ← app_at (app_count t) r
  claim ← term_and_manner_at (node_count t) app.1
  Ok ((app.0, claim.0), claim.1)

-- the fields of a claim, whose issuer must be in the application's list
unfoldable pub listed_claim_at : Table → NodeId → Rest → Field ClaimFields
listed_claim_at t issuer r = do
  c ← claim_fields_at t r
  if is_listed t c.0.0 issuer then Ok c else fault NotInList r

-- the fields of an act of this kind, issued by a node
unfoldable pub act_fields_at : Version → Table → NodeId → ActKind → Rest → Field Act
act_fields_at version t issuer Up r = Ok (UpAct, r)
act_fields_at version t issuer Down r = do
  o ← origin_at version (node_count t) r
  Ok (DownAct o.0.node o.0.inc, o.1)
act_fields_at version t issuer Permit r = do
  p ← permit_fields_at version t r
  Ok (PermitAct p.0.0 p.0.1.0 p.0.1.1, p.1)
act_fields_at version t issuer Start r = do
  k ← keyed_over_at version t r
  Ok (StartAct k.0.0 k.0.1, k.1)
act_fields_at version t issuer Stop r = do
  k ← keyed_over_at version t r
  Ok (StopAct k.0.0 k.0.1, k.1)
act_fields_at version t issuer Drain r = do
  d ← drain_fields_at version t r
  Ok (DrainAct d.0.0.node d.0.0.inc d.0.1.0 d.0.1.1, d.1)
act_fields_at version t issuer Claim r = do
  c ← listed_claim_at t issuer r
  Ok (ClaimAct c.0.0 c.0.1.0 c.0.1.1.0 c.0.1.1.1, c.1)

-- the kind of an act: a code up to the version's greatest
unfoldable pub act_kind_at : Version → Rest → Field ActKind
act_kind_at version r = do
  code ← range_at w8 1 (highest_act version) r
  Ok (act_of_code code.0, code.1)

-- an act, issued by a node
unfoldable pub act_at : Version → Table → NodeId → Rest → Field Act
act_at version t issuer r = do
  kind ← act_kind_at version r
  act ← act_fields_at version t issuer kind.0 kind.1
  Ok (act.0, act.1)

-- a dot, and the act of its node
unfoldable pub dot_and_act_at : Version → Table → Rest → Field Operation
dot_and_act_at version t r = do
  dot ← dot_at version (node_count t) r
  act ← act_at version t dot.0.origin.node dot.1
  Ok (operation dot.0 act.0, act.1)

-- an operation, which the dot and the act must make
unfoldable pub operation_at : Version → Table → Rest → Field Operation
operation_at version t r = do
  o ← dot_and_act_at version t r
  if is_none (fault_of o.0.dot o.0.act) then Ok o else fault BadNumber r

-- ---- packets

-- the kind of a packet: a code from 1 to 4
unfoldable pub packet_kind_at : Rest → Field PacketKind
packet_kind_at r = do
  code ← range_at w8 1 4 r
  Ok (packet_of_code code.0, code.1)

-- a message from its head and its body
abbrev pub message_of : Head → Body → Message
message_of h body = record { from = h.from; to = h.to; only = h.only; up_to = h.up_to; body = body; ack = h.ack }

-- the head of a message, and its state
unfoldable pub head_and_state_at : Version → Table → Bool → Rest → Field (Head × StateValue)
head_and_state_at version t whole r = do
  head ← head_at version (node_count t) whole r
  s ← parts_at version t head.1
  Ok ((head.0, s.0), s.1)

-- the fields of a packet of this kind
unfoldable pub content_at : Version → Table → PacketKind → Rest → Field Packet
content_at version t Whole r = do
  m ← head_and_state_at version t true r
  Ok (packet.Msg (message_of m.0.0 (WholeBody m.0.1)), m.1)
content_at version t Interval r = do
  m ← head_and_state_at version t false r
  Ok (packet.Msg (message_of m.0.0 (IntervalBody m.0.1)), m.1)
content_at version t Nothing r = do
  head ← head_at version (node_count t) false r
  Ok (packet.Msg (message_of head.0 NoBody), head.1)
content_at version t Single r = do
  o ← operation_at version t r
  Ok (packet.Single o.0, o.1)

-- the kind and fields after the preamble
unfoldable pub kind_and_content_at : Version → Table → Rest → Field Packet
kind_and_content_at version t r = do
  kind ← packet_kind_at r
  p ← content_at version t kind.0 kind.1
  Ok (p.0, p.1)

-- the kind and fields after the preamble, without further bytes
unfoldable pub fields_at : Version → Table → Rest → Result Packet ReadFault
fields_at version t r = do
  p ← kind_and_content_at version t r
  if length p.1.bytes == 0 then Ok p.0 else fault Trailing p.1
