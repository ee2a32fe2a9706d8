-- The laws of the peer table in words.
use Rattle.std.specs.Prelude.{◌≡◌, ◌≢◌, ◌↔◌, ◌⊎◌, ◌<◌, ◌≤◌, ℕ, true, None, Some}
use Rattle.std.specs.FinSet as set
use Rattle.std.specs.FinMap as map
use Rattle.dac_base.specs.declared.NodeId.{NodeId}
use Rattle.dac_origins.specs.declared.dot.Origin.{Origin}
use Rattle.dac_deltas.specs.Numbers.{IsGreatest}
use Rattle.dac_chains.specs.declared.lives.Life.{Life}
use Rattle.dac_messages.specs.StateValue.{StateValue}
use Rattle.dac_messages.specs.declared.message.Body.TheVariants.{Nothing}
use Rattle.dac_messages.specs.declared.message.Message.{Message}
use Rattle.dac_peers.specs.declared.positions.Position.{Position}
use Rattle.dac_peers.specs.Peers.{PeersValue, no_peers, begins, ack_for, is_up_to_date, shipped_to, heard_from, acked_by_all}

-- ---- acknowledgements of one node
-- the node's present incarnation, that of its greatest life, acknowledged n deltas
pub record HasAcked (p : PeersValue) (s : StateValue) (node : NodeId) (n : ℕ) : Type 0 where
  pub life : Life
  pub present : map.get s.lives node ≡ Some life
  pub acked : map.get p.acked (record { node = node; inc = life.inc }) ≡ Some n

abbrev pub IsOwed : PeersValue → NodeId → Type 0
IsOwed p node = set.contains p.owed node ≡ true

-- nothing was acknowledged, nothing was got, and no node is due a reply
pub record HasNothing (p : PeersValue) : Type 0 where
  pub acked : (origin : Origin) → map.get p.acked origin ≡ None
  pub got : (node : NodeId) → map.get p.got node ≡ None
  pub owed : (node : NodeId) → ¬ (IsOwed p node)

abbrev pub NothingIsKept : Type 0
NothingIsKept = HasNothing no_peers

-- ---- where an interval begins
-- the node's present incarnation acknowledged all deltas before this position, and the log has those after it
pub record IsBegin (p : PeersValue) (s : StateValue) (base : ℕ) (to : NodeId) (position : Position) : Type 0 where
  pub acked : HasAcked p s to position.number
  pub present : position.inc ≡ acked.life.inc
  pub kept : base ≤ position.number

-- an interval begins exactly there
abbrev pub BeginsWhereAcked : Type 0
BeginsWhereAcked = (p : PeersValue) (s : StateValue) (base : ℕ) (to : NodeId) (position : Position)
    → (begins p s base to ≡ Some position) ↔ IsBegin p s base to position

-- the acknowledgement for a node is the latest position got from it
abbrev pub AcksAreGot : Type 0
AcksAreGot = (p : PeersValue) (node : NodeId) (origin : Origin) (n : ℕ)
    → (ack_for p node ≡ Some (origin, n)) ↔ ((origin.node ≡ node) × (map.get p.got node ≡ Some (record { inc = origin.inc; number = n })))

-- Nothing needs to be shipped to a node exactly when its present incarnation acknowledged all deltas, the log reaches
-- back to that number, and no reply to it is due
abbrev pub UpToDateHaveAll : Type 0
UpToDateHaveAll = (p : PeersValue) (s : StateValue) (base count : ℕ) (to : NodeId)
    → (is_up_to_date p s base count to ≡ true) ↔ ((n : ℕ) × (HasAcked p s to n × (count ≤ n) × (base ≤ n) × ¬ (IsOwed p to)))

-- ---- acknowledgements of all nodes
-- the node acknowledged n deltas, or none and n is 0
abbrev pub IsNumberOf : PeersValue → StateValue → NodeId → ℕ → Type 0
IsNumberOf p s node n = HasAcked p s node n ⊎ ((n ≡ 0) × ((m : ℕ) → ¬ (HasAcked p s node m)))

-- another node, by a number below the number of nodes
abbrev pub IsOther : ℕ → NodeId → NodeId → Type 0
IsOther nodes own node = (node.0 < nodes) × (node ≢ own)

-- the least of the other nodes' numbers, or 0 if there are no others
pub record IsLeastOfAll (p : PeersValue) (s : StateValue) (nodes : ℕ) (own : NodeId) (least : ℕ) : Type 0 where
  pub at_most : (node : NodeId) (n : ℕ) → IsOther nodes own node → IsNumberOf p s node n → least ≤ n
  pub one_of : (node : NodeId) → IsOther nodes own node
      → (one : NodeId) × IsOther nodes own one × IsNumberOf p s one least
  pub alone : ((node : NodeId) → ¬ (IsOther nodes own node)) → least ≡ 0

-- the computed number is the least that every other node acknowledged
abbrev pub AllHaveTheLeast : Type 0
AllHaveTheLeast = (p : PeersValue) (s : StateValue) (nodes : ℕ) (own : NodeId)
    → IsLeastOfAll p s nodes own (acked_by_all p s nodes own)

-- ---- positions got
-- the first position isn't after the second: its incarnation is smaller, or it is the same and the number isn't greater
abbrev pub IsUpTo : Position → Position → Type 0
IsUpTo a b = (a.inc < b.inc) ⊎ ((a.inc ≡ b.inc) × (a.number ≤ b.number))

-- the position of a message in its sender's deltas
abbrev pub position_of : Message → Position
position_of m = record { inc = m.from.inc; number = m.up_to }

-- the positions got after a message
pub record IsOnward (p : PeersValue) (m : Message) (after : PeersValue) : Type 0 where
  -- no node's position goes back
  pub onward : (node : NodeId) (old : Position) → map.get p.got node ≡ Some old
      → (position : Position) × (map.get after.got node ≡ Some position) × IsUpTo old position
  -- the sender's position is at least that of a message with a state
  pub reached : m.body ≢ Nothing
      → (position : Position) × (map.get after.got m.from.node ≡ Some position) × IsUpTo (position_of m) position
  -- each position is the old one or that of the message
  pub only : (node : NodeId) (position : Position) → map.get after.got node ≡ Some position
      → (map.get p.got node ≡ Some position) ⊎ ((node ≡ m.from.node) × (m.body ≢ Nothing) × (position ≡ position_of m))
  -- other nodes' positions are unchanged
  pub others : (node : NodeId) → node ≢ m.from.node → map.get after.got node ≡ map.get p.got node

-- positions got never go back
abbrev pub GotGoesOnward : Type 0
GotGoesOnward = (own : Origin) (count : ℕ) (p : PeersValue) (m : Message) → IsOnward p m (heard_from own count p m)

-- ---- acknowledged numbers
-- by this message the origin acknowledges the first n of this node's `count` deltas
pub record Acknowledges (own : Origin) (count : ℕ) (m : Message) (origin : Origin) (n : ℕ) : Type 0 where
  pub sender : origin ≡ m.from
  pub ack : m.ack ≡ Some (own, n)
  pub within : n ≤ count

-- the acknowledgements after a message
pub record IsAcked (own : Origin) (count : ℕ) (p : PeersValue) (m : Message) (after : PeersValue) : Type 0 where
  -- each origin's number is the greatest of the one before and what the message acknowledges
  pub greatest : (origin : Origin)
      → IsGreatest (λ n. (map.get p.acked origin ≡ Some n) ⊎ Acknowledges own count m origin n)
      (map.get after.acked origin)
  -- other origins' numbers are unchanged
  pub others : (origin : Origin) → origin ≢ m.from → map.get after.acked origin ≡ map.get p.acked origin

-- the greatest number that each origin acknowledged is recorded
abbrev pub AckedIsGreatest : Type 0
AckedIsGreatest =
    (own : Origin) (count : ℕ) (p : PeersValue) (m : Message) → IsAcked own count p m (heard_from own count p m)

-- ---- replies due
-- after a message, a reply is due to the nodes before, and to the sender of a state
abbrev pub HeardAreOwed : Type 0
HeardAreOwed = (own : Origin) (count : ℕ) (p : PeersValue) (m : Message) (node : NodeId)
    → IsOwed (heard_from own count p m) node ↔ (IsOwed p node ⊎ ((node ≡ m.from.node) × (m.body ≢ Nothing)))

-- a ship to a node ends that a reply to it is due, and changes nothing else
pub record IsShipped (p : PeersValue) (to : NodeId) (after : PeersValue) : Type 0 where
  pub owed : (node : NodeId) → IsOwed after node ↔ (IsOwed p node × (node ≢ to))
  pub acked : after.acked ≡ p.acked
  pub got : after.got ≡ p.got

abbrev pub ShippedAreNotOwed : Type 0
ShippedAreNotOwed = (p : PeersValue) (to : NodeId) → IsShipped p to (shipped_to p to)

-- ---- only existing deltas are acknowledged
-- no incarnation acknowledged more deltas than there are
abbrev pub AcknowledgesAtMost : ℕ → PeersValue → Type 0
AcknowledgesAtMost count p = (origin : Origin) (n : ℕ) → map.get p.acked origin ≡ Some n → n ≤ count

-- acknowledgements stay within the deltas that exist, so that an interval never begins after the last delta
pub record AcksAreWithin : Type 0 where
  pub none : AcknowledgesAtMost 0 no_peers
  pub heard : (own : Origin) (count : ℕ) (p : PeersValue) (m : Message) → AcknowledgesAtMost count p
      → AcknowledgesAtMost count (heard_from own count p m)
  pub shipped : (count : ℕ) (p : PeersValue) (to : NodeId) → AcknowledgesAtMost count p
      → AcknowledgesAtMost count (shipped_to p to)
  pub begun : (count : ℕ) (p : PeersValue) (s : StateValue) (base : ℕ) (to : NodeId) (position : Position)
      → AcknowledgesAtMost count p
      → begins p s base to ≡ Some position → position.number ≤ count
