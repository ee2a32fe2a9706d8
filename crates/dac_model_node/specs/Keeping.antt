-- A node after an accepted event.
use Rattle.std.specs.Prelude.{◌≡◌, ℕ, ◌+◌, ◌-◌, min, max, Bool, true, false, not, cond, ◌==◌, List, [], ◌∷◌, ◌++◌, length, drop, fold, map as list_map, Option, Some, None, unwrap_or, Result, Ok, Err}
use Rattle.dac_base.specs.declared.NodeId.{NodeId}
use Rattle.dac_origins.specs.declared.dot.Origin.{Origin}
use Rattle.dac_operations.specs.Operations.{Operation}
use Rattle.dac_meaning.specs.StateValue.{StateValue, bottom, join}
use Rattle.dac_meaning.specs.Meaning.{meaning_of}
use Rattle.dac_config.specs.Table.{Table, node_count}
use Rattle.dac_deltas.specs.KeptDeltas.{KeptDeltas}
use Rattle.dac_peers.specs.Peers.{PeersValue, no_peers, shipped_to, heard_from, acked_by_all}
use Rattle.dac_decide.specs.declared.waits.Noted.{Noted}
use Rattle.dac_decide.specs.FailoverWait.{Note, waits_of}
use Rattle.dac_messages.specs.Bodies.{content_of}
use Rattle.dac_messages.specs.declared.event.Event.{Event}
use Rattle.dac_messages.specs.declared.event.Event.TheVariants.{Boot, Tick, Ship, Hear, HearOp}
use Rattle.dac_messages.specs.declared.reply.Reply.{Reply}
use Rattle.dac_messages.specs.declared.reply.Reply.TheVariants.{Booted, Crashed, Issued, Ticked, Held, GaveUp, Shipped, Heard}
use Rattle.dac_events.specs.declared.refusal.Refusal.{Refusal}
use Rattle.dac_model_node.specs.NodeValue.{NodeValue, RunningValue}
use Rattle.dac_model_node.specs.Refused.{tick_in, Some! }
use Rattle.dac_deltas.specs.declared.buffer.TheConstants.{MAX_DELTAS}

-- ---- the parts of a running node

-- Whether the start gate is open: a pass over the applications opens it, and nothing else changes it.
abbrev pub is_open_after : Bool → Reply → Bool
is_open_after was (Ticked ops passed) = true
is_open_after was _ = was

-- The waits: a pass over the applications adds a note of the state that it found. Nothing else notes anything, not even
-- a tick that is held back or a takeover.
abbrev pub AreWaitsAfter : Table → RunningValue → Event → Reply → List (Option Noted) → Type 0
AreWaitsAfter t r (Tick now) (Ticked ops passed) waits = (notes : List Note) → r.waits ≡ waits_of t notes
    → waits ≡ waits_of t (record { state = r.state; moment = now } ∷ notes)
AreWaitsAfter t r e reply waits = waits ≡ r.waits

-- the incoming state
abbrev pub comes_in : Event → List StateValue
comes_in (Hear m) = content_of m.body ∷ []
comes_in (HearOp o) = meaning_of (o ∷ []) ∷ []
comes_in _ = []

-- The deltas that the log gains: the meaning of each issued operation alone, or the incoming state if it is new.
abbrev pub deltas_in : Event → Reply → List StateValue
deltas_in e (Booted o) = meaning_of (o ∷ []) ∷ []
deltas_in e (Issued o) = meaning_of (o ∷ []) ∷ []
deltas_in e (Ticked ops passed) = list_map (λ (o : Operation). meaning_of (o ∷ [])) ops
deltas_in e (Heard fresh) = cond fresh (comes_in e) []
deltas_in e _ = []

-- The peer table: a ship and an incoming message change it, by the rules of `dac_peers`, and nothing else does.
abbrev pub peers_after : RunningValue → Event → PeersValue
peers_after r (Ship to) = shipped_to r.peers to
peers_after r (Hear m) = heard_from r.origin r.kept.count r.peers m
peers_after r _ = r.peers

-- How many deltas all other nodes have, by the table after the event. It is computed when a message comes in.
abbrev pub had_by_all : Table → Event → RunningValue → ℕ
had_by_all t (Hear m) u = acked_by_all u.peers u.state (node_count t) u.origin.node
had_by_all t _ u = 0

-- The delta log after new deltas, if all other nodes have `had`: of the old log and these, the newest 256, without
-- those that all other nodes have.
abbrev pub kept_after : KeptDeltas StateValue → List StateValue → ℕ → KeptDeltas StateValue
kept_after k deltas had =
    let count = k.count + length deltas in
    let base = max (max k.base (count - MAX_DELTAS)) (min had count) in
    record { count = count; base = base; deltas = drop (base - k.base) (k.deltas ++ deltas) }

-- A reply that leaves the state unchanged and the node running: a ship, a tick that claims nothing, or an incoming
-- state that isn't new.
abbrev pub says_it_stays : Reply → Bool
says_it_stays (Ticked ops passed) = length ops == 0
says_it_stays Held = true
says_it_stays (Shipped m) = true
says_it_stays (Heard fresh) = not fresh
says_it_stays _ = false

-- a refusal also leaves the state unchanged
abbrev pub leaves_state : Result Reply Refusal → Bool
leaves_state (Ok reply) = says_it_stays reply
leaves_state (Err why) = true

-- ---- the running node

-- The node runs on as the same incarnation. Its last moment is that of the tick, or is unchanged.
pub record RunsOn (t : Table) (r : RunningValue) (e : Event) (reply : Reply) (u : RunningValue) : Type 0 where
  pub origin : u.origin ≡ r.origin
  pub booted : u.moments.booted ≡ r.moments.booted
  pub last : u.moments.last ≡ unwrap_or (tick_in e) r.moments.last
  pub is_open : u.is_open ≡ is_open_after r.is_open reply
  pub waits : AreWaitsAfter t r e reply u.waits
  pub state : u.state ≡ fold join r.state (deltas_in e reply)
  pub peers : u.peers ≡ peers_after r e
  pub kept : u.kept ≡ kept_after r.kept (deltas_in e reply) (had_by_all t e u)

-- The node comes up as this incarnation at this moment, with its start gate shut, and only its first operation.
pub record ComesUp (t : Table) (own : Origin) (now : ℕ) (o : Operation) (u : RunningValue) : Type 0 where
  pub origin : u.origin ≡ own
  pub booted : u.moments.booted ≡ now
  pub last : u.moments.last ≡ now
  pub is_open : u.is_open ≡ false
  pub waits : u.waits ≡ waits_of t []
  pub state : u.state ≡ join bottom (meaning_of (o ∷ []))
  pub peers : u.peers ≡ no_peers
  pub kept : u.kept ≡ record { count = 1; base = 0; deltas = meaning_of (o ∷ []) ∷ [] }

-- After a crash, or if the start gate gives up, nothing runs. After any other reply, the node runs on.
abbrev pub LeavesRunning : Table → RunningValue → Event → Reply → Option RunningValue → Type 0
LeavesRunning t r e Crashed running = running ≡ None
LeavesRunning t r e GaveUp running = running ≡ None
LeavesRunning t r e reply running = Some! running (RunsOn t r e reply)

-- A node that is off comes up only by a boot, as the next incarnation. A running node keeps its incarnation's number.
abbrev pub KeepsBy : Table → NodeId → ℕ → Option RunningValue → Event → Reply → NodeValue → Type 0
KeepsBy t me last None (Boot now) (Booted o) new =
    (new.last ≡ last + 1) × Some! new.running (ComesUp t (record { node = me; inc = last + 1 }) now o)
KeepsBy t me last None e reply new = ⊥
KeepsBy t me last (Some r) e reply new = (new.last ≡ last) × LeavesRunning t r e reply new.running

-- the node after an event with this reply
abbrev pub Keeps : Table → NodeId → NodeValue → Event → Reply → NodeValue → Type 0
Keeps t me old e reply new = KeepsBy t me old.last old.running e reply new
