-- Replies that are due.
use Rattle.std.specs.Prelude.{◌≡◌, ◌≢◌, ◌↔◌, ◌||◌, ◌&&◌, not, ℕ, true, refl, ◌⊎◌}
use Rattle.std.proofs.Common.{inl, inr, ap, sym, ◌∙◌}
use Rattle.dac_peers.specs.laws.Common.{true≢false, eq_by_cmp, NodeId, node_cmp, nodes_total, Origin, Body, Message, PeersValue, heard_from}
use Rattle.std.specs.FinSet as set
use Rattle.dac_messages.specs.declared.message.Body.TheVariants.{Whole, Interval, Nothing}
use Rattle.dac_peers.specs.InWords.{IsOwed, HeardAreOwed, ShippedAreNotOwed}
use Rattle.dac_peers.specs.laws.Onward.{same_or_not}

-- ---- after a message
module _ (p : PeersValue) (node from : NodeId) (Some : Type 0) where
  -- a reply to the sender becomes due
  one_more : Some → (set.contains (set.insert p.owed from) node ≡ true) ↔ (IsOwed p node ⊎ ((node ≡ from) × Some))
  one_more some = elim (same_or_not node from) [
    | inl same ↦ (λ _. inr (same.0, some), λ _. is ∙ ap (λ b. b || set.contains p.owed node) same.1)
    | inr apart ↦ (
      λ e. inl (sym (is ∙ ap (λ b. b || set.contains p.owed node) apart.1) ∙ e),
      λ s. elim s [ inl e ↦ is ∙ (ap (λ b. b || set.contains p.owed node) apart.1 ∙ e) | inr h ↦ absurd (apart.0 h.0) ],
    )
  ]
    where
      is : set.contains (set.insert p.owed from) node ≡ (eq_by_cmp node_cmp node from || set.contains p.owed node)
      is = set.contains-insert nodes_total p.owed from node

  -- no further reply becomes due
  no_more : ¬ Some → IsOwed p node ↔ (IsOwed p node ⊎ ((node ≡ from) × Some))
  no_more none = (inl, λ s. elim s [ inl e ↦ e | inr h ↦ absurd (none h.1) ])

module _ (own : Origin) (count : ℕ) (p : PeersValue) (m : Message) (node : NodeId) where
  abbrev with_body : Body → Message
  with_body body = record { from = m.from; to = m.to; only = m.only; up_to = m.up_to; body = body; ack = m.ack }

  by_body : (body : Body) → IsOwed (heard_from own count p (with_body body)) node ↔ (IsOwed p node ⊎ ((node ≡ m.from.node) × (body ≢ Nothing)))
  by_body (Whole s) = one_more p node m.from.node (Whole s ≢ Nothing) (λ e. cc)
  by_body (Interval s) = one_more p node m.from.node (Interval s ≢ Nothing) (λ e. cc)
  by_body Nothing = no_more p node m.from.node (Nothing ≢ Nothing) (λ some. some refl)

pub heard_are_owed : HeardAreOwed
heard_are_owed own count p m node = by_body own count p m node m.body

-- ---- after a ship
pub shipped_are_not_owed : ShippedAreNotOwed
shipped_are_not_owed p to = record {
  owed = λ node. elim (same_or_not node to) [
    | inl same ↦ (
      λ e. absurd (true≢false (sym e ∙ (is node ∙ ap (λ b. not b && set.contains p.owed node) same.1))),
      λ h. absurd (h.1 same.0),
    )
    | inr apart ↦ (
      λ e. (sym (is node ∙ ap (λ b. not b && set.contains p.owed node) apart.1) ∙ e, apart.0),
      λ h. is node ∙ (ap (λ b. not b && set.contains p.owed node) apart.1 ∙ h.0),
    )
  ];
  acked = refl;
  got = refl;
}
  where
    is : (node : NodeId) → set.contains (set.remove p.owed to) node ≡ (not (eq_by_cmp node_cmp node to) && set.contains p.owed node)
    is node = set.contains-remove nodes_total p.owed to node
