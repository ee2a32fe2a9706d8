-- Transitions of a running node: one line for each kind of accepted event.
use Rattle.std.specs.Prelude.{ℕ, ◌-◌, fold, Bool, true, false, not, cond, List, [], ◌∷◌, map, Option, Some, None}
use Rattle.std.specs.Option.{option_map}
use Rattle.dac_base.specs.declared.NodeId.{NodeId}
use Rattle.dac_operations.specs.Operations.{Operation}
use Rattle.dac_meaning.specs.StateValue.{StateValue, bottom, join}
use Rattle.dac_meaning.specs.Meaning.{meaning_of}
use Rattle.dac_meaning.specs.Below.{is_below}
use Rattle.dac_config.specs.Table.{Table, node_count}
use Rattle.dac_deltas.specs.KeptDeltas.{numbered_from}
use Rattle.dac_peers.specs.declared.positions.Position.{Position}
use Rattle.dac_peers.specs.Peers.{PeersValue, begins, has_all, ack_for, shipped_to, heard_from, acked_by_all}
use Rattle.dac_decide.specs.declared.start_gate.Opening.{Opening}
use Rattle.dac_decide.specs.declared.start_gate.Opening.TheVariants.{Shut, Opened, GiveUp}
use Rattle.dac_decide.specs.declared.waits.Noted.{Noted}
use Rattle.dac_decide.specs.FailoverWait.{Note}
use Rattle.dac_decide.specs.StartGate.{opening_of}
use Rattle.dac_ticks.specs.Ticks.{Sweep, sweep_of}
use Rattle.dac_messages.specs.declared.message.Body.{Body}
use Rattle.dac_messages.specs.declared.message.Body.TheVariants.{Whole, Interval, Nothing}
use Rattle.dac_messages.specs.declared.message.Message.{Message}
use Rattle.dac_messages.specs.Bodies.{content_of}
use Rattle.dac_messages.specs.declared.event.Event.{Event}
use Rattle.dac_messages.specs.declared.event.Event.TheVariants.{Boot, Crash, Command as Commanded, Tick, Ship, Hear, HearOp}
use Rattle.dac_messages.specs.declared.reply.Reply.{Reply}
use Rattle.dac_messages.specs.declared.reply.Reply.TheVariants.{Crashed, Issued, Ticked, Held, GaveUp, Shipped, Heard}
use Rattle.dac_commands.specs.Commands.{next_operation, act_of}
use Rattle.dac_model_node.specs.NodeValue.{RunningValue}

-- The transition of an event: the reply, the states that the log gains, and whether the node goes off; then the last
-- moment, whether the start gate is open, whether lost claims are noted, and the peer table. States with numbers below
-- `trim` are dropped.
pub record Transition : Type 0 where
  pub reply : Reply
  pub adds : List StateValue
  pub goes_off : Bool
  pub last : ℕ
  pub is_open : Bool
  pub notes : Bool
  pub peers : PeersValue
  pub trim : ℕ

-- a transition that replies and adds states, and changes nothing else
abbrev pub keeps : RunningValue → Reply → List StateValue → Transition
keeps r reply adds = record {
  reply = reply;
  adds = adds;
  goes_off = false;
  last = r.moments.last;
  is_open = r.is_open;
  notes = false;
  peers = r.peers;
  trim = 0;
}

-- the node goes down
abbrev pub goes_down : RunningValue → Reply → Transition
goes_down r reply = record (keeps r reply []) { goes_off = true }

-- the node issues an operation
abbrev pub issues : RunningValue → Operation → Transition
issues r o = keeps r (Issued o) (meaning_of (o ∷ []) ∷ [])

-- The body of a message to a node that acknowledged the deltas before a position: nothing if it has all, and otherwise
-- the interval after the position. Without a position it is the whole state
abbrev pub body_from : RunningValue → Option Position → Body
body_from r None = Whole r.state
body_from r (Some p) =
    cond (has_all r.kept.count (Some p)) Nothing (Interval (fold join bottom (numbered_from r.kept p.number)))

-- the message to a node
abbrev pub message_of : RunningValue → NodeId → Message
message_of r to =
    let from = begins r.peers r.state r.kept.base to in
    record { from = r.origin; to = to; only = option_map (λ (p : Position). p.inc) from; up_to = r.kept.count; body = body_from r from; ack = ack_for r.peers to }

-- the node ships the message, and no reply to the receiver is due any more
abbrev pub ships : RunningValue → NodeId → Transition
ships r to = record (keeps r (Shipped (message_of r to)) []) { peers = shipped_to r.peers to }

-- the states that the log gains by an incoming state: none if it is below the present one
abbrev pub brings : StateValue → StateValue → List StateValue
brings s body = cond (is_below body s) [] (body ∷ [])

-- the node hears an incoming state
abbrev pub hears : RunningValue → StateValue → Transition
hears r body = keeps r (Heard (not (is_below body r.state))) (brings r.state body)

-- The node hears a message, and drops the deltas that all other nodes have acknowledged.
abbrev pub hears_message : Table → RunningValue → Message → Transition
hears_message t r m =
    let body = content_of m.body in
    let adds = brings r.state body in
    let peers = heard_from r.origin r.kept.count r.peers m in
    record (keeps r (Heard (not (is_below body r.state))) adds) {
      peers = peers;
      trim = acked_by_all peers (fold join r.state adds) (node_count t) r.origin.node;
    }

-- the meaning of each operation alone
abbrev pub meanings : List Operation → List StateValue
meanings os = map (λ (o : Operation). meaning_of (o ∷ [])) os

-- the node makes a pass over its applications
abbrev pub looks_after : RunningValue → ℕ → Sweep → Transition
looks_after r now sweep =
    record (keeps r (Ticked sweep.ops sweep.passed) (meanings sweep.ops)) { last = now; is_open = true; notes = true }

-- the node still waits at its start gate
abbrev pub holds_back : RunningValue → ℕ → Transition
holds_back r now = record (keeps r Held []) { last = now; is_open = false }

-- a tick, given the state of the start gate
abbrev pub ticks_by : Opening → Table → RunningValue → List (Option Noted) → ℕ → Transition
ticks_by Shut t r noted now = holds_back r now
ticks_by GiveUp t r noted now = goes_down r GaveUp
ticks_by Opened t r noted now = looks_after r now (sweep_of t r.origin noted now r.state)

-- the state of the start gate, which stays open after it opens
abbrev pub opening_at : Table → RunningValue → ℕ → Opening
opening_at t r now = cond r.is_open Opened (opening_of t r.state (now - r.moments.booted))

-- The transition of an accepted event at a running node, whose waits with this event's note are `noted`. (A running
-- node never accepts a boot.)
abbrev pub transition_of : Table → RunningValue → List (Option Noted) → Event → Transition
transition_of t r noted (Boot now) = keeps r (Heard false) []
transition_of t r noted Crash = goes_down r Crashed
transition_of t r noted (Commanded c) = issues r (next_operation r.state r.origin (act_of t r.state c))
transition_of t r noted (Tick now) = ticks_by (opening_at t r now) t r noted now
transition_of t r noted (Ship to) = ships r to
transition_of t r noted (Hear m) = hears_message t r m
transition_of t r noted (HearOp o) = hears r (meaning_of (o ∷ []))

-- the moment of an event, or 0 if it has none
abbrev pub moment_of : Event → ℕ
moment_of (Boot now) = now
moment_of (Tick now) = now
moment_of _ = 0

-- the note of an event in this state
abbrev pub note_of : StateValue → Event → Note
note_of s e = record { state = s; moment = moment_of e }
