-- The peer table of a controller, and where an interval for a peer begins. (After the anti-entropy algorithm for delta
-- intervals of Almeida, Shoker and Baquero. That acknowledgements belong to incarnations is this project's own.)
use Rattle.std.specs.Prelude.{ℕ, zero, suc, Bool, false, cond, nat_eq, nat_le, nat_lt, ◌&&◌, min, max, List, [], ◌∷◌, ◌++◌, not, map as list_map, fold, Option, Some, None, unwrap_or, refl}
use Rattle.std.specs.Option.{option_map, option_and_then}
use Rattle.std.specs.FinSet as set
use Rattle.std.specs.FinMap as map
use Rattle.std.specs.Coded.{Coded, code_by, coded×, coded_ℕ}
use Rattle.dac_base.specs.declared.NodeId.{NodeId}
use Rattle.dac_base.specs.Ids.{node_cmp, coded_node}
use Rattle.dac_origins.specs.declared.dot.Origin.{Origin}
use Rattle.dac_origins.specs.Dots.{coded_origin}
use Rattle.dac_deltas.specs.Numbers.{Numbers, raised}
use Rattle.dac_chains.specs.declared.lives.Life.{Life}
use Rattle.dac_messages.specs.StateValue.{StateValue}
use Rattle.dac_peers.specs.declared.positions.Position.{Position}
use Rattle.dac_messages.specs.declared.message.Body.{Body}
use Rattle.dac_messages.specs.declared.message.Body.TheVariants.{Nothing}
use Rattle.dac_messages.specs.declared.message.Message.{Message}

-- `acked`: how many of this node's deltas each incarnation of another node acknowledged. `got`: for each node, the
-- latest position in its deltas that was received. `owed`: the nodes to which a reply is due.
pub record PeersValue : Type 0 where
  pub acked : Numbers
  pub got : map.FinMap node_cmp Position
  pub owed : set.FinSet node_cmp

abbrev pub coded_position : Coded Position
coded_position = code_by (ℕ × ℕ) (coded× coded_ℕ coded_ℕ) (λ p. (p.inc, p.number))
    (λ p. record { inc = p.0; number = p.1 }) (λ _. refl)

abbrev pub coded_peers : Coded PeersValue
coded_peers =
    code_by (Numbers × (map.FinMap node_cmp Position × set.FinSet node_cmp)) (coded× (map.code coded_origin coded_ℕ) (coded× (map.code coded_node coded_position) (set.code coded_node)))
    (λ p. (p.acked, (p.got, p.owed)))
    (λ p. record { acked = p.0; got = p.1.0; owed = p.1.1 })
    (λ _. refl)

-- the empty table
abbrev pub no_peers : PeersValue
no_peers = record { acked = map.empty; got = map.empty; owed = set.empty }

-- ---- acknowledged numbers
-- how many deltas this incarnation of a node acknowledged, if any
abbrev pub acked_by : PeersValue → NodeId → Life → Option Position
acked_by p node life = option_map (λ (n : ℕ). record { inc = life.inc; number = n })
    (map.get p.acked (record { node = node; inc = life.inc }))

-- how many deltas a node acknowledged as its present incarnation, that of its greatest life
abbrev pub acked_at : PeersValue → StateValue → NodeId → Option Position
acked_at p s node = option_and_then (acked_by p node) (map.get s.lives node)

-- ---- where an interval begins
-- the position, unless the log has dropped deltas after it
abbrev pub kept_from : ℕ → Option Position → Option Position
kept_from base None = None
kept_from base (Some p) = cond (nat_le base p.number) (Some p) None

-- where an interval for a node begins, and for which incarnation; none if the whole state must be shipped
abbrev pub begins : PeersValue → StateValue → ℕ → NodeId → Option Position
begins p s base to = kept_from base (acked_at p s to)

-- the acknowledgement for a node: the latest position got from it
abbrev pub ack_for : PeersValue → NodeId → Option (Origin × ℕ)
ack_for p node = option_map (λ (g : Position). (record { node = node; inc = g.inc }, g.number)) (map.get p.got node)

-- the node has acknowledged all `count` deltas
abbrev pub has_all : ℕ → Option Position → Bool
has_all count None = false
has_all count (Some p) = nat_le count p.number

-- nothing needs to be shipped to the node: it has acknowledged all deltas, and no reply to it is due
abbrev pub is_up_to_date : PeersValue → StateValue → ℕ → ℕ → NodeId → Bool
is_up_to_date p s base count to = has_all count (begins p s base to) && not (set.contains p.owed to)

-- after a ship to a node, no reply to it is due
abbrev pub shipped_to : PeersValue → NodeId → PeersValue
shipped_to p to = record { acked = p.acked; got = p.got; owed = set.remove p.owed to }

-- ---- incoming messages
-- the later of two positions: the one of the greater incarnation, and within an incarnation the greater number
abbrev pub later : Position → Position → Position
later old new = cond (nat_lt old.inc new.inc) new
    (cond (nat_eq old.inc new.inc) (record { inc = old.inc; number = max old.number new.number }) old)

abbrev pub got_after : Option Position → Position → Position
got_after None new = new
got_after (Some old) new = later old new

-- an acknowledgement counts if it names this node's origin and no more deltas than there are
abbrev pub counts : Origin → ℕ → Origin × ℕ → Bool
counts own count ack = nat_eq ack.0.node.0 own.node.0 && (nat_eq ack.0.inc own.inc && nat_le ack.1 count)

-- the acknowledged numbers after an incoming acknowledgement
abbrev pub acked_after : Origin → ℕ → Numbers → Origin → Option (Origin × ℕ) → Numbers
acked_after own count acked from None = acked
acked_after own count acked from (Some ack) = cond (counts own count ack) (raised acked from ack.1) acked

-- the positions got and the replies due after an incoming body, whose sender has `up_to` deltas; a body without a state
-- changes neither
abbrev pub got_by : PeersValue → Origin → ℕ → Body → PeersValue
got_by p from up_to Nothing = p
got_by p from up_to _ = record {
  acked = p.acked;
  got = map.insert p.got from.node (got_after (map.get p.got from.node) (record { inc = from.inc; number = up_to }));
  owed = set.insert p.owed from.node;
}

-- the table after an incoming message, at an origin that has `count` deltas
abbrev pub heard_from : Origin → ℕ → PeersValue → Message → PeersValue
heard_from own count p m =
    let after = got_by p m.from m.up_to m.body in
    record { acked = acked_after own count p.acked m.from m.ack; got = after.got; owed = after.owed }

-- ---- acknowledgements of all nodes
-- the nodes below a number, without this one, in order
abbrev pub others : ℕ → NodeId → List NodeId
others zero own = []
others (suc n) own = others n own ++ cond (nat_eq n own.0) [] (record { 0 = n } ∷ [])

-- the lesser of a number and the least before it, if there is one
abbrev pub lesser : Option ℕ → ℕ → Option ℕ
lesser None n = Some n
lesser (Some least) n = Some (min least n)

-- how many deltas a node acknowledged, 0 if none
abbrev pub number_acked : PeersValue → StateValue → NodeId → ℕ
number_acked p s node = unwrap_or (option_map (λ (g : Position). g.number) (acked_at p s node)) 0

-- how many deltas every other node acknowledged, 0 if there are no others
abbrev pub acked_by_all : PeersValue → StateValue → ℕ → NodeId → ℕ
acked_by_all p s nodes own = unwrap_or (fold lesser None (list_map (number_acked p s) (others nodes own))) 0
