-- The peer table of a node, and the messages under way, agree with the nodes' logs and sets.
use Rattle.std.proofs.Common.{◌≡◌, ℕ, ◌≤◌, ◌-◌, Bool, true, false, cond, ◌&&◌, ◌⊎◌, inl, inr, List, [], ◌∷◌, ◌++◌, max, nat_eq, nat_le, Option, Some, None, Ordering, refl, sym, ap, subst, ◌∙◌, append-nil, true≢false, zero, suc}
use Rattle.dac_model_world.specs.laws.Common.{nat_lt, option_map, option_and_then, eq_by_cmp, slice_get, Equal-is, exact_unsigned_eq, NodeId, Origin, origin_cmp, origins_total, exact_origins, Operation, StateValue, meaning_of, IsOperationOf, AreOperationsOf, DotsDetermine, is_below, is_below-is, Position, PeersValue, acked_by, acked_at, kept_from, begins, heard_from, ack_for, Body, Nothing, Message, content_of, brings, some_same, Copy}
use Rattle.std.specs.Cmp.{IsTotalOrder}
use Rattle.std.specs.FinMap as map
use Rattle.std.proofs.lemmas.Bool.{leb-true}
use Rattle.std.proofs.lemmas.Map.Lookups.{CmpEqualImpliesEq}
use Rattle.dac_base.specs.Ids.{node_cmp}
use Rattle.dac_base.specs.laws.Ids.{nodes_total, exact_nodes}
use Rattle.dac_deltas.specs.Numbers.{Numbers, greater, raised}
use Rattle.dac_model_node.specs.Peers.{no_peers, later, got_after, got_by, counts, acked_after, shipped_to}
use Rattle.dac_model_world.specs.ModelWorld.{counted}
use Rattle.dac_model_world.specs.laws.Gathered.{Entries, gathered, logged}
use Rattle.dac_model_world.specs.laws.Meanings.{below_in}
use Rattle.dac_model_world.specs.laws.Covers.{Seen, Later, Has, Has-later, Covered, Covered-later, Covered-max, Sent, Sent-later}

pub none_some : {X P : Type 0} {x : X} → None ≡ Some x → P
none_some e = cc

-- ---- the peer table
pub record PeersOk (v : NodeId → Seen) (n : NodeId) (last : ℕ) (p : PeersValue) : Type 0 where
  -- an incarnation that acknowledged `a` has the first `a` states of this log
  pub acked : (k : Origin) (a : ℕ) → map.get p.acked k ≡ Some a → Covered (v n) (v k.node) last a k.inc
  -- this node has the sender's log up to the position got
  pub got : (f : NodeId) (g : Position) → map.get p.got f ≡ Some g → Covered (v f) (v n) g.inc g.number last

pub PeersOk-later : (v u : NodeId → Seen) (n : NodeId) (last : ℕ) (p : PeersValue) → ((m : NodeId) → Later (v m) (u m)) → PeersOk v n last p → PeersOk u n last p
PeersOk-later v u n last p l h = record {
  acked = λ k a e. Covered-later (v n) (u n) (v k.node) (u k.node) last a k.inc (h.acked k a e) (l n) (l k.node);
  got = λ f g e. Covered-later (v f) (u f) (v n) (u n) g.inc g.number last (h.got f g e) (l f) (l n);
}

pub no_peers_ok : (v : NodeId → Seen) (n : NodeId) (last : ℕ) → PeersOk v n last no_peers
no_peers_ok v n last = record {
  acked = λ k a e. none_some (sym (map.get-empty origin_cmp k) ∙ e);
  got = λ f g e. none_some (sym (map.get-empty node_cmp f) ∙ e);
}

-- the nodes that are due a reply don't matter
pub shipped_ok : (v : NodeId → Seen) (n : NodeId) (last : ℕ) (p : PeersValue) (to : NodeId) → PeersOk v n last p → PeersOk v n last (shipped_to p to)
shipped_ok v n last p to h = record { acked = h.acked; got = h.got }

-- a property of each entry, and of one more, holds of each entry after that is put
module _ {K V : Type 0} {R : K → K → Ordering} (o : IsTotalOrder R) (exact : CmpEqualImpliesEq R) (P : K → V → Type 0) where
  put_ok : (m : map.FinMap R V) (k : K) (v : V) → ((q : K) (x : V) → map.get m q ≡ Some x → P q x) → P k v → (q : K) (x : V) → map.get (map.insert m k v) q ≡ Some x → P q x
  put_ok m k v old new q x e =
      elim (eq_by_cmp R q k) as (λ b. eq_by_cmp R q k ≡ b → cond b (Some v) (map.get m q) ≡ Some x → P q x) [
        | true ↦ λ t p. subst (λ (y : V). P q y) (some_same v x p) (subst (λ (z : K). P z v) (sym (exact q k ((Equal-is (R q k)).0 t))) new)
        | false ↦ λ _ p. old q x p
      ] refl (sym (map.get-insert o m k v q) ∙ e)

greater_ok : (x y : Seen) (j b i : ℕ) (c : Option ℕ) → ((a : ℕ) → c ≡ Some a → Covered x y j a i) → Covered x y j b i → Covered x y j (greater c b) i
greater_ok x y j b i None old new = new
greater_ok x y j b i (Some a) old new = Covered-max x y j a b i (old a refl) new

later_ok : (x y : Seen) (i : ℕ) (g h : Position) → Covered x y g.inc g.number i → Covered x y h.inc h.number i → Covered x y (later g h).inc (later g h).number i
later_ok x y i g h old new =
    elim (nat_lt g.inc h.inc) as (λ b. let l = cond b h (cond (nat_eq g.inc h.inc) (record { inc = g.inc; number = max g.number h.number }) g) in Covered x y l.inc l.number i) [
      | true ↦ new
      | false ↦ elim (nat_eq g.inc h.inc) as (λ b. nat_eq g.inc h.inc ≡ b → let l = cond b (record { inc = g.inc; number = max g.number h.number }) g in Covered x y l.inc l.number i) [
        | true ↦ λ t. Covered-max x y g.inc g.number h.number i old (subst (λ j. Covered x y j h.number i) (sym (exact_unsigned_eq g.inc h.inc t)) new)
        | false ↦ λ _. old
      ] refl
    ]

got_ok : (x y : Seen) (i : ℕ) (c : Option Position) (h : Position) → ((g : Position) → c ≡ Some g → Covered x y g.inc g.number i) → Covered x y h.inc h.number i → Covered x y (got_after c h).inc (got_after c h).number i
got_ok x y i None h old new = new
got_ok x y i (Some g) h old new = later_ok x y i g h (old g refl) new

-- an acknowledgement that counts is for the node's own origin
counts_own : (own : Origin) (count : ℕ) (ack : Origin × ℕ) → counts own count ack ≡ true → ack.0 ≡ own
counts_own own count ack e =
    let node = left (nat_eq ack.0.node.0 own.node.0) (nat_eq ack.0.inc own.inc && nat_le ack.1 count) e in
    let inc = left (nat_eq ack.0.inc own.inc) (nat_le ack.1 count) (right (nat_eq ack.0.node.0 own.node.0) (nat_eq ack.0.inc own.inc && nat_le ack.1 count) e) in
    λ i. record { node = record { 0 = exact_unsigned_eq ack.0.node.0 own.node.0 node i }; inc = exact_unsigned_eq ack.0.inc own.inc inc i }
  where
    left : (a b : Bool) → (a && b) ≡ true → a ≡ true
    left true b h = refl
    left false b h = absurd (true≢false (sym h))

    right : (a b : Bool) → (a && b) ≡ true → b ≡ true
    right true b h = h
    right false b h = absurd (true≢false (sym h))

-- the meaning of an acknowledgement: the incarnation that sent it has this origin's log up to the number
abbrev pub Acknowledges : (NodeId → Seen) → Origin → Option (Origin × ℕ) → Type 0
Acknowledges v from ack = (r : Origin × ℕ) → ack ≡ Some r → Covered (v r.0.node) (v from.node) r.0.inc r.1 from.inc

acked_ok : (v : NodeId → Seen) (n : NodeId) (last count : ℕ) (from : Origin) (ack : Option (Origin × ℕ)) (acked : Numbers) →
    ((k : Origin) (a : ℕ) → map.get acked k ≡ Some a → Covered (v n) (v k.node) last a k.inc) → Acknowledges v from ack →
    (k : Origin) (a : ℕ) → map.get (acked_after (record { node = n; inc = last }) count acked from ack) k ≡ Some a → Covered (v n) (v k.node) last a k.inc
acked_ok v n last count from None acked old new = old
acked_ok v n last count from (Some r) acked old new =
    let own : Origin = record { node = n; inc = last } in
    elim (counts own count r) as (λ b. counts own count r ≡ b → (k : Origin) (a : ℕ) → map.get (cond b (raised acked from r.1) acked) k ≡ Some a → Covered (v n) (v k.node) last a k.inc) [
      | true ↦ λ t.
          let fresh : Covered (v n) (v from.node) last r.1 from.inc = subst (λ (q : Origin). Covered (v q.node) (v from.node) q.inc r.1 from.inc) (counts_own own count r t) (new r refl) in
          put_ok origins_total exact_origins (λ (k : Origin) (a : ℕ). Covered (v n) (v k.node) last a k.inc) acked from (greater (map.get acked from) r.1) old
          (greater_ok (v n) (v from.node) last r.1 from.inc (map.get acked from) (old from) fresh)
      | false ↦ λ _. old
    ] refl

-- the positions got after a body of a sender whose log is had up to this number
got_by_ok : (v : NodeId → Seen) (n : NodeId) (last : ℕ) (p : PeersValue) (from : Origin) (up_to : ℕ) (body : Body) → PeersOk v n last p → Covered (v from.node) (v n) from.inc up_to last →
    (f : NodeId) (g : Position) → map.get (got_by p from up_to body).got f ≡ Some g → Covered (v f) (v n) g.inc g.number last
got_by_ok v n last p from up_to Nothing h sent = h.got
got_by_ok v n last p from up_to _ h sent =
    put_ok nodes_total exact_nodes (λ (f : NodeId) (g : Position). Covered (v f) (v n) g.inc g.number last) p.got from.node (got_after (map.get p.got from.node) (record { inc = from.inc; number = up_to })) h.got
    (got_ok (v from.node) (v n) last (map.get p.got from.node) (record { inc = from.inc; number = up_to }) (h.got from.node) sent)

-- the peer table after an accepted message
pub heard_ok : (v : NodeId → Seen) (n : NodeId) (last count : ℕ) (p : PeersValue) (m : Message) → PeersOk v n last p →
    Covered (v m.from.node) (v n) m.from.inc m.up_to last → Acknowledges v m.from m.ack →
    PeersOk v n last (heard_from (record { node = n; inc = last }) count p m)
heard_ok v n last count p m h sent ack = record {
  acked = acked_ok v n last count m.from m.ack p.acked h.acked ack;
  got = got_by_ok v n last p m.from m.up_to m.body h sent;
}

-- an acknowledgement sent states the position got
pub ack_ok : (v : NodeId → Seen) (n : NodeId) (last : ℕ) (p : PeersValue) (to : NodeId) → PeersOk v n last p → Acknowledges v (record { node = n; inc = last }) (ack_for p to)
ack_ok v n last p to h = by_place (map.get p.got to) (h.got to)
  where
    by_place : (g : Option Position) → ((q : Position) → g ≡ Some q → Covered (v to) (v n) q.inc q.number last) → Acknowledges v (record { node = n; inc = last }) (option_map (λ (q : Position). (record { node = to; inc = q.inc }, q.number)) g)
    by_place None k r e = none_some e
    by_place (Some q) k r e = subst (λ (x : Origin × ℕ). Covered (v x.0.node) (v n) x.0.inc x.1 last) (some_same _ r e) (k q refl)

-- an interval begins at an acknowledged position, from which nothing is dropped
pub record Begins (p : PeersValue) (base : ℕ) (to : NodeId) (q : Position) : Type 0 where
  pub acked : map.get p.acked (record { node = to; inc = q.inc }) ≡ Some q.number
  pub kept : base ≤ q.number

-- the value that leads to an optional one, if there is one
from_some : {X Y : Type 0} (f : X → Option Y) (o : Option X) (y : Y) → option_and_then f o ≡ Some y → (x : X) × (f x ≡ Some y)
from_some f None y e = none_some e
from_some f (Some x) y e = (x, e)

pub begins_is : (p : PeersValue) (s : StateValue) (base : ℕ) (to : NodeId) (q : Position) → begins p s base to ≡ Some q → Begins p base to q
begins_is p s base to q e = kept (acked_at p s to) refl e
  where
    acked_is : (inc : ℕ) (c : Option ℕ) → map.get p.acked (record { node = to; inc = inc }) ≡ c → option_map (λ (n : ℕ). record { inc = inc; number = n }) c ≡ Some q → map.get p.acked (record { node = to; inc = q.inc }) ≡ Some q.number
    acked_is inc None is e = none_some e
    acked_is inc (Some a) is e = subst (λ (z : Position). map.get p.acked (record { node = to; inc = z.inc }) ≡ Some z.number) (some_same (record { inc = inc; number = a }) q e) is

    place_is : acked_at p s to ≡ Some q → map.get p.acked (record { node = to; inc = q.inc }) ≡ Some q.number
    place_is e = let life = from_some (acked_by p to) (map.get s.lives to) q e in acked_is life.0.inc (map.get p.acked (record { node = to; inc = life.0.inc })) refl life.1

    kept : (c : Option Position) → acked_at p s to ≡ c → kept_from base c ≡ Some q → Begins p base to q
    kept None is e = none_some e
    kept (Some r) is e = elim (nat_le base r.number) as (λ b. nat_le base r.number ≡ b → cond b (Some r) None ≡ Some q → Begins p base to q) [
      | true ↦ λ t h. let same = some_same r q h in record { acked = place_is (is ∙ h); kept = subst (λ (z : Position). base ≤ z.number) same (leb-true base r.number t) }
      | false ↦ λ _ h. none_some h
    ] refl e

-- ---- messages
-- the message is bound to an incarnation that has the operation
pub record Bound (v : NodeId → Seen) (to : NodeId) (only : Option ℕ) (o : Operation) : Type 0 where
  pub inc : ℕ
  pub bound : only ≡ Some inc
  pub has : Has (v to) inc o

-- A message and the copy of its sender's whole set: the body means a part of it, and the incarnation that the message
-- is bound to has the rest.
pub record CopyOk (ops : List Operation) (v : NodeId → Seen) (m : Message) (c : Copy) : Type 0 where
  pub to : m.to ≡ c.to
  pub from : m.from.node ≡ c.from
  pub only : m.only ≡ c.only
  pub within : AreOperationsOf c.operations ops
  pub delta : List Operation
  pub body : content_of m.body ≡ meaning_of delta
  pub inside : AreOperationsOf delta c.operations
  pub rest : (o : Operation) → IsOperationOf o c.operations → IsOperationOf o delta ⊎ Bound v m.to m.only o
  pub sent : Sent (v m.from.node) m.from.inc m.up_to c.operations
  pub ack : Acknowledges v m.from m.ack

pub CopyOk-later : (ops qs : List Operation) (v u : NodeId → Seen) (m : Message) (c : Copy) → AreOperationsOf ops qs → ((n : NodeId) → Later (v n) (u n)) → CopyOk ops v m c → CopyOk qs u m c
CopyOk-later ops qs v u m c more l h = record {
  to = h.to;
  from = h.from;
  only = h.only;
  within = λ o i. more o (h.within o i);
  delta = h.delta;
  body = h.body;
  inside = h.inside;
  rest = λ o i. elim (h.rest o i) [
    | inl a ↦ inl a
    | inr b ↦ inr (record { inc = b.inc; bound = b.bound; has = Has-later (v m.to) (u m.to) b.inc o b.has (l m.to) })
  ];
  sent = Sent-later (v m.from.node) (u m.from.node) m.from.inc m.up_to c.operations h.sent (l m.from.node);
  ack = λ r e. Covered-later (v r.0.node) (u r.0.node) (v m.from.node) (u m.from.node) r.0.inc r.1 m.from.inc (h.ack r e) (l r.0.node) (l m.from.node);
}

abbrev pub CopiesOk : List Operation → (NodeId → Seen) → List Message → List Copy → Type 0
CopiesOk ops v [] [] = Unit {0}
CopiesOk ops v [] (c ∷ cs) = ⊥
CopiesOk ops v (m ∷ ms) [] = ⊥
CopiesOk ops v (m ∷ ms) (c ∷ cs) = CopyOk ops v m c × CopiesOk ops v ms cs

pub CopiesOk-later : (ops qs : List Operation) (v u : NodeId → Seen) (ms : List Message) (cs : List Copy) → AreOperationsOf ops qs → ((n : NodeId) → Later (v n) (u n)) → CopiesOk ops v ms cs → CopiesOk qs u ms cs
CopiesOk-later ops qs v u [] [] more l h = tt
CopiesOk-later ops qs v u [] (c ∷ cs) more l h = absurd h
CopiesOk-later ops qs v u (m ∷ ms) [] more l h = absurd h
CopiesOk-later ops qs v u (m ∷ ms) (c ∷ cs) more l h = (CopyOk-later ops qs v u m c more l h.0, CopiesOk-later ops qs v u ms cs more l h.1)

pub CopiesOk-push : (ops : List Operation) (v : NodeId → Seen) (ms : List Message) (cs : List Copy) (m : Message) (c : Copy) → CopiesOk ops v ms cs → CopyOk ops v m c → CopiesOk ops v (ms ++ m ∷ []) (cs ++ c ∷ [])
CopiesOk-push ops v [] [] m c h k = (k, tt)
CopiesOk-push ops v [] (d ∷ cs) m c h k = absurd h
CopiesOk-push ops v (l ∷ ms) [] m c h k = absurd h
CopiesOk-push ops v (l ∷ ms) (d ∷ cs) m c h k = (h.0, CopiesOk-push ops v ms cs m c h.1 k)

pub CopiesOk-get : (ops : List Operation) (v : NodeId → Seen) (ms : List Message) (cs : List Copy) (k : ℕ) (m : Message) → CopiesOk ops v ms cs → slice_get ms k ≡ Some m → (c : Copy) × ((slice_get cs k ≡ Some c) × CopyOk ops v m c)
CopiesOk-get ops v [] cs k m h e = none_some e
CopiesOk-get ops v (l ∷ ms) [] k m h e = absurd h
CopiesOk-get ops v (l ∷ ms) (c ∷ cs) zero m h e = (c, (refl, subst (λ (x : Message). CopyOk ops v x c) (some_same l m e) h.0))
CopiesOk-get ops v (l ∷ ms) (c ∷ cs) (suc k) m h e = CopiesOk-get ops v ms cs k m h.1 e

-- the copy of a message
pub message_copy : (ops : List Operation) (v : NodeId → Seen) (ms : List Message) (cs : List Copy) (k : ℕ) (m : Message) → CopiesOk ops v ms cs → counted ms k ≡ Some m → (c : Copy) × ((counted cs k ≡ Some c) × CopyOk ops v m c)
message_copy ops v ms cs k m h e =
    elim (nat_eq k 0) as (λ b. cond b None (slice_get ms (k - 1)) ≡ Some m → (c : Copy) × ((cond b None (slice_get cs (k - 1)) ≡ Some c) × CopyOk ops v m c)) [
      | true ↦ λ p. none_some p
      | false ↦ λ p. CopiesOk-get ops v ms cs (k - 1) m h p
    ] e

-- ---- the states that a body adds to a set
pub record Brought (states : List StateValue) (delta os : List Operation) : Type 0 where
  pub entries : Entries
  pub is : states ≡ logged entries
  pub inside : AreOperationsOf (gathered entries) delta
  pub all : (o : Operation) → IsOperationOf o delta → IsOperationOf o (gathered entries) ⊎ IsOperationOf o os

-- a state is added unless it is below
pub brought : (os delta ops : List Operation) (s x : StateValue) → s ≡ meaning_of os → x ≡ meaning_of delta → AreOperationsOf os ops → AreOperationsOf delta ops → DotsDetermine ops → Brought (brings s x) delta os
brought os delta ops s x is body w v agree =
    elim (is_below x s) as (λ b. is_below x s ≡ b → Brought (cond b [] (x ∷ [])) delta os) [
      | true ↦ λ t. record {
        entries = [];
        is = refl;
        inside = λ o i. absurd i;
        all = λ o i. inr (below_in os delta ops w v agree ((is_below-is (meaning_of delta) (meaning_of os)).1 (sym (λ k. is_below (body k) (is k)) ∙ t)) o i);
      }
      | false ↦ λ _. record {
        entries = delta ∷ [];
        is = ap (λ (y : StateValue). y ∷ []) body;
        inside = λ o i. subst (IsOperationOf o) (append-nil delta) i;
        all = λ o i. inl (subst (IsOperationOf o) (sym (append-nil delta)) i);
      }
    ] refl
