-- Shipped messages in words, by the log of the model node.
use Rattle.std.specs.Prelude.{◌≡◌, ℕ, ◌<◌, ◌≤◌, drop, length, Option, None, Some, Ok}
use Rattle.std.specs.FinMap as map
use Rattle.dac_base.specs.declared.NodeId.{NodeId}
use Rattle.dac_origins.specs.declared.dot.Origin.{Origin}
use Rattle.dac_chains.specs.declared.lives.Life.{Life}
use Rattle.dac_config.specs.Table.{Table}
use Rattle.dac_peers.specs.declared.positions.Position.{Position}
use Rattle.dac_messages.specs.declared.message.Body.{Body}
use Rattle.dac_messages.specs.declared.message.Body.TheVariants.{Whole, Interval, Nothing}
use Rattle.dac_messages.specs.declared.message.Message.{Message}
use Rattle.dac_messages.specs.declared.event.Event.{Event}
use Rattle.dac_messages.specs.declared.event.Event.TheVariants.{Ship}
use Rattle.dac_messages.specs.declared.reply.Reply.{Reply}
use Rattle.dac_messages.specs.declared.reply.Reply.TheVariants.{Shipped}
use Rattle.dac_model_node.specs.NodeValue.{NodeValue, RunningValue}
use Rattle.dac_model_node.specs.Step.{model_step}
use Rattle.dac_model_node.specs.ModelNode.{ModelNode, ModelRunning, joined, running_shown, shown}

-- The position from which an interval for a node can begin: its incarnation is that of the node's greatest life and
-- acknowledged this number, and no later delta is dropped.
pub record IsPosition (r : RunningValue) (to : NodeId) (p : Position) : Type 0 where
  pub life : Life
  pub lives : map.get r.state.lives to ≡ Some life
  pub present : life.inc ≡ p.inc
  pub acked : map.get r.peers.acked (record { node = to; inc = p.inc }) ≡ Some p.number
  pub kept : r.kept.base ≤ p.number

-- Without such a position, the body is the whole state, for any incarnation. Otherwise it is for the position's
-- incarnation only: the join of the log after the position, or nothing if the log ends there.
abbrev pub IsBody : Table → ModelRunning → NodeId → Option ℕ → Body → Type 0
IsBody t r to only (Whole s) =
    (only ≡ None) × ((s ≡ joined r.log) × ((p : Position) → ¬ IsPosition (running_shown t r) to p))
IsBody t r to only (Interval s) = (p : Position)
    × (IsPosition (running_shown t r) to p
    × ((only ≡ Some p.inc) × ((p.number < length r.log) × (s ≡ joined (drop p.number r.log)))))
IsBody t r to only Nothing =
    (p : Position) × (IsPosition (running_shown t r) to p × ((only ≡ Some p.inc) × (length r.log ≤ p.number)))

-- the acknowledgement is the latest position got from the node, if any
abbrev pub IsAckShipped : ModelRunning → NodeId → Option (Origin × ℕ) → Type 0
IsAckShipped r node None = map.get r.peers.got node ≡ None
IsAckShipped r node (Some ack) =
    (ack.0.node ≡ node) × (map.get r.peers.got node ≡ Some (record { inc = ack.0.inc; number = ack.1 }))

-- the message that a running node ships to another
pub record IsShipped (t : Table) (r : ModelRunning) (node : NodeId) (m : Message) : Type 0 where
  pub from : m.from ≡ r.origin
  pub to : m.to ≡ node
  pub up_to : m.up_to ≡ length r.log
  pub body : IsBody t r node m.only m.body
  pub ack : IsAckShipped r node m.ack

-- the reply to a ship is such a message
abbrev pub ShipsBy : Table → Option ModelRunning → Event → Reply → Type 0
ShipsBy t (Some r) (Ship to) (Shipped m) = IsShipped t r to m
ShipsBy t (Some r) (Ship to) _ = ⊥
ShipsBy t None (Ship to) reply = ⊥
ShipsBy t running e reply = Unit {0}

-- `ShipsBy` for each model node that shows as the value
abbrev pub ShipsSo : Table → NodeValue → Event → Reply → Type 0
ShipsSo t old e reply = (d : ModelNode) → shown t d ≡ old → ShipsBy t d.running e reply

-- the model node's reply to an accepted ship is such a message
abbrev pub ShipsInWords : Type 0
ShipsInWords = (t : Table) (me : NodeId) (d : ModelNode) (e : Event) (reply : Reply)
    → (model_step t me d e).answer ≡ Ok reply → ShipsBy t d.running e reply
