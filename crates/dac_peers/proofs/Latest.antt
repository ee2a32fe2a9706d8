-- The cache stays right after a number is raised.
use Rattle.std.proofs.Common.{◌≡◌, ◌≢◌, ℕ, List, cond, Option, Some, inl, inr, refl, ap, sym, ◌∙◌}
use Rattle.dac_peers.specs.laws.Common.{NodeId, Origin, origins_total, Numbers, greater, raised, Position}
use Rattle.std.specs.FinMap as map
use Rattle.dac_peers.specs.Newest.{noted, AreLatest, IsNoted}
use Rattle.dac_peers.specs.laws.Acked.{same_or_not as same_origin_or_not}
use Rattle.dac_peers.specs.laws.Onward.{same_or_not}

-- the number that an incarnation of a node acknowledged
abbrev pub of_node : Numbers → NodeId → ℕ → Option ℕ
of_node acked node inc = map.get acked (record { node = node; inc = inc })

-- the number of an origin after it is raised
pub raised_at : (acked : Numbers) (origin : Origin) (n : ℕ) → map.get (raised acked origin n) origin ≡ Some (greater (map.get acked origin) n)
raised_at acked origin n = elim (same_origin_or_not origin origin) [
  | inl same ↦ map.get-insert origins_total acked origin (greater (map.get acked origin) n) origin
      ∙ ap (λ b. cond b (Some (greater (map.get acked origin) n)) (map.get acked origin)) same.1
  | inr other ↦ absurd (other.0 refl)
]

-- another node's numbers are unchanged
other_stays : (acked : Numbers) (origin : Origin) (n : ℕ) (node : NodeId) (inc : ℕ) → node ≢ origin.node
    → of_node (raised acked origin n) node inc ≡ of_node acked node inc
other_stays acked origin n node inc apart = elim (same_origin_or_not (record { node = node; inc = inc }) origin) [
  | inl same ↦ absurd (apart (ap (λ (o : Origin). o.node) same.0))
  | inr other ↦ map.get-insert origins_total acked origin (greater (map.get acked origin) n) (record { node = node; inc = inc })
      ∙ ap (λ b. cond b (Some (greater (map.get acked origin) n)) (of_node acked node inc)) other.1
]

pub stay_latest : (acked after : Numbers) (origin : Origin) (n : ℕ) (latest new : List (Option Position)) (position : Option Position)
    → AreLatest acked latest → after ≡ raised acked origin n → IsNoted latest origin.node.0 position new
    → ((p : Position) → position ≡ Some p → of_node after origin.node p.inc ≡ Some p.number)
    → AreLatest after new
stay_latest acked after origin n latest new position are is noted_so fits node p there = elim (same_or_not node origin.node) [
  | inl same ↦ ap (λ (s : NodeId). of_node after s p.inc) same.0
      ∙ fits p (noted_so.there p (ap (λ (s : NodeId). noted new s.0) (sym same.0) ∙ there))
  | inr apart ↦
      let place : node.0 ≢ origin.node.0 = λ e. apart.0 (λ i. record { 0 = e i }) in
      ap (λ m. of_node m node p.inc) is
      ∙ (other_stays acked origin n node p.inc apart.0 ∙ are node p (sym (noted_so.others node.0 place) ∙ there))
]
