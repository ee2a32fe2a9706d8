-- The names and numbers of a message are in form, and so are the positions that nodes record.
use Rattle.std.proofs.Common.{◌≡◌, ℕ, ◌<◌, ◌≤◌, true, false, cond, max, nat_eq, List, [], ◌∷◌, ◌++◌, length, Option, None, Some, zero, suc, refl, sym, subst, ◌∙◌, arith}
use Rattle.dac_in_form.proofs.Common.{nat_lt, AllByRecursion, slice_get, option_map, eq_by_cmp, MAX_COUNTER, NodeId, node_cmp, nodes_total, exact_nodes, Origin, Table, node_count, IsIncarnation, IsOrigin, Two, Body, Whole, Interval, Nothing, Message, Position, ModelRunning, joined, running_shown, message_of, some_same}
use Rattle.std.specs.Cmp.{Equal-is}
use Rattle.std.specs.FinMap as map
use Rattle.dac_wire.specs.Form.{is_whole, IsOnly, IsAck}
use Rattle.dac_peers.specs.Peers.{PeersValue, got_after, got_by}
use Rattle.dac_model_node.specs.Shipping.{IsPosition, IsBody}
use Rattle.dac_model_node.specs.laws.Shipping.{message_is}
use Rattle.dac_model_world.specs.laws.Carried.{none_some}
use Rattle.dac_in_form.proofs.MayIssue.{MayIssue}

-- a message in form, except for its content
pub record IsHead (t : Table) (m : Message) : Type 0 where
  pub from : IsOrigin Two (node_count t) m.from
  pub to : m.to.0 < node_count t
  pub only : IsOnly Two (is_whole m.body) m.only
  pub up_to : m.up_to ≤ MAX_COUNTER
  pub ack : IsAck Two (node_count t) m.ack

-- ---- lists of messages

pub heads_more : (t : Table) (ms more : List Message) → AllByRecursion (IsHead t) ms → AllByRecursion (IsHead t) more → AllByRecursion (IsHead t) (ms ++ more)
heads_more t [] more all rest = rest
heads_more t (m ∷ ms) more all rest = (all.0, heads_more t ms more all.1 rest)

pub head_at : (t : Table) (ms : List Message) (k : ℕ) (m : Message) → AllByRecursion (IsHead t) ms → slice_get ms k ≡ Some m → IsHead t m
head_at t [] k m all e = none_some e
head_at t (l ∷ ms) zero m all e = subst (IsHead t) (some_same l m e) all.0
head_at t (l ∷ ms) (suc k) m all e = head_at t ms k m all.1 e

-- ---- positions got

-- the position got from a node
pub record IsGot (t : Table) (node : NodeId) (p : Position) : Type 0 where
  pub there : node.0 < node_count t
  pub inc : IsIncarnation Two p.inc
  pub number : p.number ≤ MAX_COUNTER

abbrev pub AreGot : Table → PeersValue → Type 0
AreGot t p = (node : NodeId) (g : Position) → map.get p.got node ≡ Some g → IsGot t node g

max_at_most : (a b m : ℕ) → a ≤ m → b ≤ m → max a b ≤ m
max_at_most a b m h k = omega arith

later_is : (t : Table) (node : NodeId) (old : Option Position) (new : Position) → ((g : Position) → old ≡ Some g → IsGot t node g) → IsGot t node new → IsGot t node (got_after old new)
later_is t node None new was is = is
later_is t node (Some old) new was is =
    let before = was old refl in
    elim (nat_lt old.inc new.inc) as (λ b. IsGot t node (cond b new (cond (nat_eq old.inc new.inc) (record { inc = old.inc; number = max old.number new.number }) old))) [
      | true ↦ is
      | false ↦ elim (nat_eq old.inc new.inc) as (λ b. IsGot t node (cond b (record { inc = old.inc; number = max old.number new.number }) old)) [
        | true ↦ record { there = before.there; inc = before.inc; number = max_at_most old.number new.number MAX_COUNTER before.number is.number }
        | false ↦ before
      ]
    ]

module _ (t : Table) (p : PeersValue) (got : AreGot t p) where
  put_is : (from : NodeId) (new : Position) → IsGot t from new → (node : NodeId) (g : Position) → map.get (map.insert p.got from new) node ≡ Some g → IsGot t node g
  put_is from new is node g e = elim (eq_by_cmp node_cmp node from) as (λ b. eq_by_cmp node_cmp node from ≡ b → cond b (Some new) (map.get p.got node) ≡ Some g → IsGot t node g) [
    | true ↦ λ same put. subst (IsGot t node) (some_same new g put) (subst (λ (x : NodeId). IsGot t x new) (sym (exact_nodes node from ((Equal-is (node_cmp node from)).0 same))) is)
    | false ↦ λ other put. got node g put
  ] refl (sym (map.get-insert nodes_total p.got from new node) ∙ e)

  module _ (from : Origin) (up_to : ℕ) (is : IsOrigin Two (node_count t) from) (most : up_to ≤ MAX_COUNTER) where
    got_more : (node : NodeId) (g : Position) → map.get (map.insert p.got from.node (got_after (map.get p.got from.node) (record { inc = from.inc; number = up_to }))) node ≡ Some g → IsGot t node g
    got_more = put_is from.node (got_after (map.get p.got from.node) (record { inc = from.inc; number = up_to }))
        (later_is t from.node (map.get p.got from.node) (record { inc = from.inc; number = up_to }) (got from.node) (record { there = is.node; inc = is.inc; number = most }))

    -- the positions got after a message's body
    pub got_by_is : (body : Body) → AreGot t (got_by p from up_to body)
    got_by_is (Whole s) = got_more
    got_by_is (Interval s) = got_more
    got_by_is Nothing = got

-- ---- shipped messages

module _ (t : Table) (r : ModelRunning) (may : MayIssue t r.origin (joined r.log)) (count : length r.log ≤ MAX_COUNTER) (got : AreGot t r.peers) (to : NodeId) where
  position_inc : (p : Position) → IsPosition (running_shown t r) to p → IsIncarnation Two p.inc
  position_inc p is = subst (IsIncarnation Two) is.present (may.lives to is.life is.lives)

  only_is : (only : Option ℕ) (body : Body) → IsBody t r to only body → IsOnly Two (is_whole body) only
  only_is only (Whole s) is = is.0
  only_is only (Interval s) is = (is.0.inc, is.1.1.0, position_inc is.0 is.1.0)
  only_is only Nothing is = (is.0.inc, is.1.1.0, position_inc is.0 is.1.0)

  ack_is : (g : Option Position) → map.get r.peers.got to ≡ g → IsAck Two (node_count t) (option_map (λ (g : Position). (record { node = to; inc = g.inc }, g.number)) g)
  ack_is None is = tt
  ack_is (Some g) is = let was = got to g is in (record { node = was.there; inc = was.inc }, was.number)

  pub head_is : to.0 < node_count t → IsHead t (message_of (running_shown t r) to)
  head_is there =
      let m = message_of (running_shown t r) to in
      record { from = may.claim.origin; to = there; only = only_is m.only m.body (message_is t r to).body; up_to = count; ack = ack_is (map.get r.peers.got to) refl }
