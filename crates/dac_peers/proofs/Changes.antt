-- Reads with a pending change, and changes without effect.
use Rattle.std.proofs.Common.{◌≡◌, ◌≤◌, ◌&&◌, ◌||◌, ℕ, true, false, not, cond, nat_eq, Option, None, Some, refl, inl, inr, arith, ap, sym, ◌∙◌, eq-eqb}
use Rattle.dac_peers.specs.laws.Common.{eqb-true, eq_by_cmp, NodeId, node_cmp, nodes_total, exact_nodes, Origin, origin_cmp, origins_total, Numbers, greater, raised, Position, PeersValue, got_after, lists_kept}
use Rattle.std.specs.FinSet as set
use Rattle.std.specs.FinMap as map
use Rattle.std.specs.Arc.{arc_value}
use Rattle.std.specs.declared.sync.Arc.{Arc}
use Rattle.dac_origins.specs.laws.Dots.{exact_origins}
use Rattle.dac_peers.specs.declared.pending.Answer.{Answer}
use Rattle.dac_peers.specs.declared.pending.Answer.TheVariants.{Owed, Given}
use Rattle.dac_peers.specs.Peers.{no_peers}
use Rattle.dac_peers.specs.Pending.{ack_done, position_done, answer_done, same_node, same_origin, number_then, position_then, is_owed_then}
use Rattle.dac_peers.specs.laws.Acked.{and_parts, same_or_not as same_origin_or_not}
use Rattle.dac_peers.specs.laws.Onward.{same_or_not}

-- ---- the tests
same_node_is : (a b : NodeId) → same_node a b ≡ true → a ≡ b
same_node_is a b e = ap (λ (n : ℕ). record { 0 = n }) (eqb-true a.0 b.0 e)

itself : (a : NodeId) → same_node a a ≡ true
itself a = eq-eqb a.0 a.0 refl

node_test : (a q : NodeId) → same_node a q ≡ eq_by_cmp node_cmp q a
node_test a q = elim (same_or_not q a) [
  | inl same ↦ ap (same_node a) same.0 ∙ (itself a ∙ sym same.1)
  | inr apart ↦ elim (same_node a q) as (λ b. same_node a q ≡ b → b ≡ eq_by_cmp node_cmp q a) [
    | true ↦ λ e. absurd (apart.0 (sym (same_node_is a q e)))
    | false ↦ λ _. sym apart.1
  ] refl
]

same_origin_is : (a b : Origin) → same_origin a b ≡ true → a ≡ b
same_origin_is a b e =
    let parts = and_parts (same_node a.node b.node) (nat_eq a.inc b.inc) e in
    let node = same_node_is a.node b.node parts.0 in
    let inc = eqb-true a.inc b.inc parts.1 in
    λ i. record { node = node i; inc = inc i }

origin_itself : (a : Origin) → same_origin a a ≡ true
origin_itself a = ap (λ b. b && nat_eq a.inc a.inc) (itself a.node) ∙ eq-eqb a.inc a.inc refl

origin_test : (a q : Origin) → same_origin a q ≡ eq_by_cmp origin_cmp q a
origin_test a q = elim (same_origin_or_not q a) [
  | inl same ↦ ap (same_origin a) same.0 ∙ (origin_itself a ∙ sym same.1)
  | inr apart ↦ elim (same_origin a q) as (λ b. same_origin a q ≡ b → b ≡ eq_by_cmp origin_cmp q a) [
    | true ↦ λ e. absurd (apart.0 (sym (same_origin_is a q e)))
    | false ↦ λ _. sym apart.1
  ] refl
]

-- ---- reads with a pending change
pub number_is : (acked : Numbers) (ack : Option (Origin × ℕ)) (q : Origin)
    → number_then ack q (map.get acked q) ≡ map.get (ack_done acked ack) q
number_is acked None q = refl
number_is acked (Some ack) q =
    ap (λ b. cond b (Some (greater (map.get acked q) ack.1)) (map.get acked q)) (origin_test ack.0 q)
    ∙ (chosen ∙ sym (map.get-insert origins_total acked ack.0 (greater (map.get acked ack.0) ack.1) q))
  where
    chosen : cond (eq_by_cmp origin_cmp q ack.0) (Some (greater (map.get acked q) ack.1)) (map.get acked q)
        ≡ cond (eq_by_cmp origin_cmp q ack.0) (Some (greater (map.get acked ack.0) ack.1)) (map.get acked q)
    chosen = elim (same_origin_or_not q ack.0) [
      | inl same ↦ ap (λ o. cond (eq_by_cmp origin_cmp q ack.0) (Some (greater (map.get acked o) ack.1)) (map.get acked q)) same.0
      | inr apart ↦ rw apart.1
    ]

pub position_is : (got : map.FinMap node_cmp Position) (p : Option (NodeId × Position)) (q : NodeId)
    → position_then p q (map.get got q) ≡ map.get (position_done got p) q
position_is got None q = refl
position_is got (Some p) q =
    ap (λ b. cond b (Some (got_after (map.get got q) p.1)) (map.get got q)) (node_test p.0 q)
    ∙ (chosen ∙ sym (map.get-insert nodes_total got p.0 (got_after (map.get got p.0) p.1) q))
  where
    chosen : cond (eq_by_cmp node_cmp q p.0) (Some (got_after (map.get got q) p.1)) (map.get got q)
        ≡ cond (eq_by_cmp node_cmp q p.0) (Some (got_after (map.get got p.0) p.1)) (map.get got q)
    chosen = elim (same_or_not q p.0) [
      | inl same ↦ ap (λ o. cond (eq_by_cmp node_cmp q p.0) (Some (got_after (map.get got o) p.1)) (map.get got q)) same.0
      | inr apart ↦ rw apart.1
    ]

pub is_owed_is : (owed : set.FinSet node_cmp) (answer : Option Answer) (q : NodeId)
    → is_owed_then answer q (set.contains owed q) ≡ set.contains (answer_done owed answer) q
is_owed_is owed None q = refl
is_owed_is owed (Some (Owed to)) q = ap (λ b. b || set.contains owed q) (node_test to q) ∙ sym (set.contains-insert nodes_total owed to q)
is_owed_is owed (Some (Given to)) q = ap (λ b. not b && set.contains owed q) (node_test to q) ∙ sym (set.contains-remove nodes_total owed to q)

-- ---- changes without effect
-- a number no greater than the one before
pub nothing_raised : (acked : Numbers) (origin : Origin) (before n : ℕ) → map.get acked origin ≡ Some before → n ≤ before
    → acked ≡ raised acked origin n
nothing_raised acked origin before n is few = map.same_map origins_total exact_origins acked (raised acked origin n) (λ q. there q ∙ sym (map.get-insert origins_total acked origin (greater (map.get acked origin) n) q))
  where
    stays : Some (greater (map.get acked origin) n) ≡ map.get acked origin
    stays = ap (λ old. Some (greater old n)) is ∙ (ap Some (omega arith) ∙ sym is)

    there : (q : Origin) → map.get acked q ≡ cond (eq_by_cmp origin_cmp q origin) (Some (greater (map.get acked origin) n)) (map.get acked q)
    there q = elim (same_origin_or_not q origin) [
      | inl same ↦ rw same.1 (ap (map.get acked) same.0 ∙ sym stays)
      | inr apart ↦ rw apart.1
    ]

-- a reply that is due already
pub owed_already : (owed : set.FinSet node_cmp) (node : NodeId) → set.contains owed node ≡ true → owed ≡ set.insert owed node
owed_already owed node is = set.same_set nodes_total exact_nodes owed (set.insert owed node) (λ q. there q ∙ sym (set.contains-insert nodes_total owed node q))
  where
    there : (q : NodeId) → set.contains owed q ≡ (eq_by_cmp node_cmp q node || set.contains owed q)
    there q = elim (same_or_not q node) [
      | inl same ↦ rw same.1 (ap (set.contains owed) same.0 ∙ is)
      | inr apart ↦ rw apart.1
    ]

-- a reply that isn't due
pub never_owed : (owed : set.FinSet node_cmp) (node : NodeId) → set.contains owed node ≡ false → owed ≡ set.remove owed node
never_owed owed node is = set.same_set nodes_total exact_nodes owed (set.remove owed node) (λ q. there q ∙ sym (set.contains-remove nodes_total owed node q))
  where
    there : (q : NodeId) → set.contains owed q ≡ (not (eq_by_cmp node_cmp q node) && set.contains owed q)
    there q = elim (same_or_not q node) [
      | inl same ↦ rw same.1 (ap (set.contains owed) same.0 ∙ is)
      | inr apart ↦ rw apart.1
    ]

-- ---- lists that exist or not
pub of_lists : {Z A : Type 0} (f : PeersValue → A) (kept : Option (Arc PeersValue Z)) (lists : Arc PeersValue Z) → kept ≡ Some lists
    → f (arc_value lists) ≡ f (lists_kept kept)
of_lists f kept lists is = ap (λ k. f (lists_kept k)) (sym is)

pub of_none : {Z A : Type 0} (f : PeersValue → A) (kept : Option (Arc PeersValue Z)) → kept ≡ None → f no_peers ≡ f (lists_kept kept)
of_none f kept is = ap (λ k. f (lists_kept k)) (sym is)
