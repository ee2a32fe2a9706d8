use Rattle.std.proofs.Common.{◌∙◌, sym, ap, subst}
use Rattle.dac_wishes.specs.laws.Keys.{keys_total, exact_keys}
use Rattle.dac_wishes.specs.StoredPermits.{AreStoredFlags, permissions_of}
use Rattle.dac_wishes.proofs.VoteStoring.{joined_stored, votes_value_of-join}
use Rattle.dac_wishes.proofs.permissions.Permissions.absorb_with_context.Goals as goal

pub invariant_of-self-2 : goal.invariant_of-self-2
invariant_of-self-2 c = subst AreStoredFlags (sym c.in_ok-absorb_with_context.ensures.ok) (joined_stored keys_total exact_keys _ _ c.self.invariant c.other.invariant)

pub invariant_of-self : goal.invariant_of-self
invariant_of-self c = subst AreStoredFlags (sym c.in_err-absorb_with_context.ensures.err) c.self.invariant

pub returns-clause-ok : goal.returns-clause-ok
returns-clause-ok c = rw (← c.self.view_is, ← c.other.view_is) (ap permissions_of c.in_ok-absorb_with_context.ensures.ok ∙ votes_value_of-join keys_total exact_keys _ _ c.self.invariant c.other.invariant)
