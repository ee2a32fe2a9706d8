-- No incarnation acknowledged more deltas than there are.
use Rattle.std.specs.Prelude.{◌≡◌, ℕ, Some, ◌⊎◌}
use Rattle.std.proofs.Common.{inl, inr, sym, subst, ◌∙◌}
use Rattle.dac_peers.specs.laws.Common.{none-some, Origin, Message, PeersValue, heard_from}
use Rattle.std.specs.FinMap as map
use Rattle.dac_deltas.specs.Numbers.{IsGreatest}
use Rattle.dac_peers.specs.InWords.{Acknowledges, AcknowledgesAtMost, AcksAreWithin}
use Rattle.dac_peers.specs.laws.Acked.{acked_is_greatest}
use Rattle.dac_peers.specs.laws.Shipping.{nothing_is_kept, begins_is}

heard_within : (own : Origin) (count : ℕ) (p : PeersValue) (m : Message) → AcknowledgesAtMost count p → AcknowledgesAtMost count (heard_from own count p m)
heard_within own count p m within origin n is =
    let greatest = subst (IsGreatest (λ k. (map.get p.acked origin ≡ Some k) ⊎ Acknowledges own count m origin k)) is ((acked_is_greatest own count p m).greatest origin) in
    elim greatest.0 [ inl old ↦ within origin n old | inr new ↦ new.within ]

pub acks_are_within : AcksAreWithin
acks_are_within = record {
  none = λ origin n is. absurd (none-some n (sym (nothing_is_kept.acked origin) ∙ is));
  heard = heard_within;
  shipped = λ count p to within. within;
  begun = λ count p s base to position within is. let begin = begins_is p s to position base is in within (record { node = to; inc = begin.acked.life.inc }) position.number begin.acked.acked;
}
