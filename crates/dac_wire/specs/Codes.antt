-- The codes of packets and acts.
use Rattle.std.specs.Prelude.{ℕ, zero, suc, ◌≤◌, Bool, true, false, Option, None, Some}
use Rattle.dac_bytes.specs.declared.version.Version.{Version}
use Rattle.dac_bytes.specs.declared.version.Version.TheVariants.{One, Two}
use Rattle.dac_messages.specs.declared.message.Body.{Body}
use Rattle.dac_messages.specs.declared.message.Body.TheVariants.{Whole as WholeBody, Interval as IntervalBody, Nothing as NoBody}
use Rattle.dac_operations.specs.declared.act.Act.{Act}
use Rattle.dac_operations.specs.declared.act.Act.TheVariants.{Up as UpAct, Down as DownAct, Permit as PermitAct, Start as StartAct, Stop as StopAct, Drain as DrainAct, Claim as ClaimAct}
use Rattle.dac_wire.specs.declared.codes.PacketKind.{PacketKind}
use Rattle.dac_wire.specs.declared.codes.PacketKind.TheVariants.{Whole, Interval, Nothing, Single}
use Rattle.dac_wire.specs.declared.codes.ActKind.{ActKind}
use Rattle.dac_wire.specs.declared.codes.ActKind.TheVariants.{Up, Down, Permit, Start, Stop, Claim, Drain}
use Rattle.dac_wire.specs.declared.packet.Packet.{Packet}
use Rattle.dac_wire.specs.declared.packet.Packet.TheVariants as packet

-- ---- packets

-- the code of a packet's kind: 1 for a whole state, 2 for an interval, 3 for a message without a state, 4 for a single
-- operation
abbrev pub packet_code : PacketKind → ℕ
packet_code Whole = 1
packet_code Interval = 2
packet_code Nothing = 3
packet_code Single = 4

-- the packet kind of a code; reading rejects 0 and those above 4 first
abbrev pub packet_of_code : ℕ → PacketKind
packet_of_code zero = Whole
packet_of_code (suc zero) = Whole
packet_of_code (suc (suc zero)) = Interval
packet_of_code (suc (suc (suc zero))) = Nothing
packet_of_code (suc (suc (suc (suc n)))) = Single

abbrev pub kind_of_body : Body → PacketKind
kind_of_body (WholeBody s) = Whole
kind_of_body (IntervalBody s) = Interval
kind_of_body NoBody = Nothing

abbrev pub kind_of_packet : Packet → PacketKind
kind_of_packet (packet.Msg m) = kind_of_body m.body
kind_of_packet (packet.Single o) = Single

-- ---- acts

-- the code of an act's kind: its position among the kinds, from 1
abbrev pub act_code : ActKind → ℕ
act_code Up = 1
act_code Down = 2
act_code Permit = 3
act_code Start = 4
act_code Stop = 5
act_code Claim = 6
act_code Drain = 7

-- the act kind of a code; reading rejects 0 and those above 7 first
abbrev pub act_of_code : ℕ → ActKind
act_of_code zero = Up
act_of_code (suc zero) = Up
act_of_code (suc (suc zero)) = Down
act_of_code (suc (suc (suc zero))) = Permit
act_of_code (suc (suc (suc (suc zero)))) = Start
act_of_code (suc (suc (suc (suc (suc zero))))) = Stop
act_of_code (suc (suc (suc (suc (suc (suc zero)))))) = Claim
act_of_code (suc (suc (suc (suc (suc (suc (suc n))))))) = Drain

abbrev pub kind_of_act : Act → ActKind
kind_of_act UpAct = Up
kind_of_act (DownAct node inc) = Down
kind_of_act (PermitAct key value over) = Permit
kind_of_act (StartAct key over) = Start
kind_of_act (StopAct key over) = Stop
kind_of_act (DrainAct node inc value over) = Drain
kind_of_act (ClaimAct app term how from) = Claim

-- the greatest code of an act; version one has no drains
abbrev pub highest_act : Version → ℕ
highest_act One = 6
highest_act Two = 7

-- the version has acts of this kind
abbrev pub IsKindIn : Version → ActKind → Type 0
IsKindIn version kind = act_code kind ≤ highest_act version

-- ---- values

-- the code of the value of a permit or a drain: 0 for false, 1 for true
abbrev pub value_code : Bool → ℕ
value_code false = 0
value_code true = 1

abbrev pub value_of_code : ℕ → Bool
value_of_code zero = false
value_of_code (suc n) = true

-- the code of the incarnation that a message is for: 0 if it is for any
abbrev pub only_code : Option ℕ → ℕ
only_code None = 0
only_code (Some inc) = inc

abbrev pub only_of_code : ℕ → Option ℕ
only_of_code zero = None
only_of_code (suc n) = Some (suc n)

-- whether there is an acknowledgement (1) or none (0)
abbrev pub ack_code : {X : Type 0} → Option X → ℕ
ack_code None = 0
ack_code (Some x) = 1
