use Rattle.std.proofs.Common.{◌∙◌}
use Rattle.dac_wishes.specs.StoredStanding.{stored_standing}
use Rattle.dac_wishes.proofs.Found.{on_err}
use Rattle.dac_wishes.proofs.StandingStoring.{joined_beside, standing-join}
use Rattle.dac_wishes.proofs.standing.StandingWrites.absorb_starts_last.Goals as goal

pub absorb_paired-requires : goal.absorb_paired-requires
absorb_paired-requires c = c.self.invariant.starts.held

pub invariant_of-self : goal.invariant_of-self
invariant_of-self c = rw (c.in_err-absorb_paired.ensures.err.0, c.in_err-absorb_paired.ensures.err.1) c.self.invariant

pub invariant_of-self-2 : goal.invariant_of-self-2
invariant_of-self-2 c =
    let permits = c.put_if_some.ensures ∙ rw (c.of.ensures, c.of-2.ensures) at c.in_ok-permits.ensures in
    let drains = c.put_if_some-2.ensures ∙ rw (c.of-3.ensures, c.of-4.ensures) at c.in_ok-drains.ensures in
    let paired = rw c.of-theirs.ensures at c.in_ok-absorb_paired.ensures.ok in
    rw (permits, drains, paired.0, paired.1) (joined_beside c.self.invariant c.other.invariant)

pub returns-in_err-absorb_paired-clause-err : goal.returns-in_err-absorb_paired-clause-err
returns-in_err-absorb_paired-clause-err c = on_err _ _ ((λ i. stored_standing (c.in_err-absorb_paired.ensures.err.1 i) c.self.inside.permits (c.in_err-absorb_paired.ensures.err.0 i) c.self.inside.drains) ∙ c.self.view_is)

pub returns-clause-ok : goal.returns-clause-ok
returns-clause-ok c =
    let permits = c.put_if_some.ensures ∙ rw (c.of.ensures, c.of-2.ensures) at c.in_ok-permits.ensures in
    let drains = c.put_if_some-2.ensures ∙ rw (c.of-3.ensures, c.of-4.ensures) at c.in_ok-drains.ensures in
    let paired = rw c.of-theirs.ensures at c.in_ok-absorb_paired.ensures.ok in
    rw (← c.self.view_is, ← c.other.view_is) ((λ i. stored_standing (paired.1 i) (permits i) (paired.0 i) (drains i)) ∙ standing-join c.self.invariant c.other.invariant)
