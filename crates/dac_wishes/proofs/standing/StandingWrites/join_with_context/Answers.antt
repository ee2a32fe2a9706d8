use Rattle.std.proofs.Common.{◌∙◌}
use Rattle.dac_wishes.specs.StoredStanding.{stored_standing}
use Rattle.dac_wishes.proofs.StandingStoring.{joined_beside, standing-join}
use Rattle.dac_wishes.proofs.standing.StandingWrites.join_with_context.Goals as goal

pub invariant_of-result : goal.invariant_of-result
invariant_of-result c =
    let union = rw (← c.self.view_is, ← c.other.view_is) at c.requires in
    let permits = rw (c.of.ensures, c.of-2.ensures) at c.in_ok-permits.ensures in
    let starts = rw (c.of-3.ensures, c.of-4.ensures) at c.in_ok-starts.ensures in
    let drains = rw (c.of-5.ensures, c.of-6.ensures) at c.in_ok-drains.ensures in
    rw (union, permits, starts, drains) (joined_beside c.self.invariant c.other.invariant)

pub returns : goal.returns
returns c =
    let union = rw (← c.self.view_is, ← c.other.view_is) at c.requires in
    let permits = rw (c.of.ensures, c.of-2.ensures) at c.in_ok-permits.ensures in
    let starts = rw (c.of-3.ensures, c.of-4.ensures) at c.in_ok-starts.ensures in
    let drains = rw (c.of-5.ensures, c.of-6.ensures) at c.in_ok-drains.ensures in
    rw (← c.self.view_is, ← c.other.view_is) ((λ i. stored_standing (union i) (permits i) (starts i) (drains i)) ∙ standing-join c.self.invariant c.other.invariant)
