use Rattle.dac_wishes.specs.laws.Keys.{keys_total, exact_keys}
use Rattle.dac_wishes.proofs.VoteStoring.{below_if_stored, stored_if_below}
use Rattle.dac_wishes.proofs.permissions.Permissions.leq_with_contexts.Goals as goal

pub leq_with_contexts-requires : goal.leq_with_contexts-requires
leq_with_contexts-requires c = rw (← c.self.view_is, ← c.other.view_is) at c.requires

pub returns : goal.returns
returns c =
    rw (← c.self.view_is, ← c.other.view_is)
    (λ e. below_if_stored keys_total exact_keys _ _ c.self.invariant c.other.invariant (c.leq_with_contexts.ensures.0 e), λ below. c.leq_with_contexts.ensures.1 (stored_if_below keys_total exact_keys _ _ c.self.invariant c.other.invariant below))
