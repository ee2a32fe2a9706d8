-- Lists that may be shared, with one pending change.
use Rattle.std.specs.Prelude.{ℕ, Bool, cond, not, nat_eq, ◌&&◌, ◌||◌, Option, None, Some}
use Rattle.std.specs.FinSet as set
use Rattle.std.specs.FinMap as map
use Rattle.std.specs.Arc.{arc_value}
use Rattle.std.specs.declared.sync.Arc.{Arc}
use Rattle.dac_base.specs.declared.NodeId.{NodeId}
use Rattle.dac_base.specs.Ids.{node_cmp}
use Rattle.dac_origins.specs.declared.dot.Origin.{Origin}
use Rattle.dac_deltas.specs.Numbers.{Numbers, greater, raised}
use Rattle.dac_peers.specs.declared.positions.Position.{Position}
use Rattle.dac_peers.specs.declared.pending.Answer.{Answer}
use Rattle.dac_peers.specs.declared.pending.Answer.TheVariants.{Owed, Given}
use Rattle.dac_peers.specs.declared.pending.Pending.{Pending}
use Rattle.dac_peers.specs.Peers.{PeersValue, no_peers, got_after}

-- the value of the lists, or the empty table if there are none
abbrev pub lists_kept : {Z : Type 0} → Option (Arc PeersValue Z) → PeersValue
lists_kept None = no_peers
lists_kept (Some lists) = arc_value lists

-- ---- the change
abbrev pub none_pending : Pending
none_pending = record { ack = None; position = None; answer = None }

-- the acknowledged numbers with the change
abbrev pub ack_done : Numbers → Option (Origin × ℕ) → Numbers
ack_done acked None = acked
ack_done acked (Some ack) = raised acked ack.0 ack.1

-- the positions got with the change
abbrev pub position_done : map.FinMap node_cmp Position → Option (NodeId × Position) → map.FinMap node_cmp Position
position_done got None = got
position_done got (Some p) = map.insert got p.0 (got_after (map.get got p.0) p.1)

-- the replies due with the change
abbrev pub answer_done : set.FinSet node_cmp → Option Answer → set.FinSet node_cmp
answer_done owed None = owed
answer_done owed (Some (Owed node)) = set.insert owed node
answer_done owed (Some (Given node)) = set.remove owed node

abbrev pub done : PeersValue → Pending → PeersValue
done p change = record {
  acked = ack_done p.acked change.ack;
  got = position_done p.got change.position;
  owed = answer_done p.owed change.answer;
}

-- ---- reads with the pending change
abbrev pub same_node : NodeId → NodeId → Bool
same_node a b = nat_eq a.0 b.0

abbrev pub same_origin : Origin → Origin → Bool
same_origin a b = same_node a.node b.node && nat_eq a.inc b.inc

-- the number of an origin, given the listed one
abbrev pub number_then : Option (Origin × ℕ) → Origin → Option ℕ → Option ℕ
number_then None origin listed = listed
number_then (Some ack) origin listed = cond (same_origin ack.0 origin) (Some (greater listed ack.1)) listed

-- the position of a node, given the listed one
abbrev pub position_then : Option (NodeId × Position) → NodeId → Option Position → Option Position
position_then None node listed = listed
position_then (Some p) node listed = cond (same_node p.0 node) (Some (got_after listed p.1)) listed

-- whether a reply to a node is due, given whether the lists have it
abbrev pub is_owed_then : Option Answer → NodeId → Bool → Bool
is_owed_then None node listed = listed
is_owed_then (Some (Owed to)) node listed = same_node to node || listed
is_owed_then (Some (Given to)) node listed = not (same_node to node) && listed
