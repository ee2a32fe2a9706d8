use Rattle.std.proofs.Common.{◌∙◌, ap, sym}
use Rattle.dac_wishes.specs.StandingValue.{standing_of}
use Rattle.dac_wishes.specs.PermissionsValue.{PermissionsValue}
use Rattle.dac_wishes.specs.WishesValue.{WishesValue}
use Rattle.dac_wishes.specs.DrainsValue.{DrainsValue}
use Rattle.dac_wishes.proofs.standing.StandingWrites.nothing.Goals as goal

pub of-requires-clause-alike : goal.of-requires-clause-alike
of-requires-clause-alike c = ap (λ (v : PermissionsValue). v.known) c.bottom.ensures ∙ sym (ap (λ (v : WishesValue). v.known) c.bottom-2.ensures)

pub of-requires-clause-drained : goal.of-requires-clause-drained
of-requires-clause-drained c = ap (λ (v : DrainsValue). v.known) c.bottom-3.ensures ∙ sym (ap (λ (v : WishesValue). v.known) c.bottom-2.ensures)

pub returns : goal.returns
returns c = c.of.ensures ∙ (λ i. standing_of (c.bottom.ensures i) (c.bottom-2.ensures i) (c.bottom-3.ensures i))
