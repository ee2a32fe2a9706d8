use Rattle.std.proofs.Common.{◌∙◌, ap}
use Rattle.dac_origins.specs.laws.Dots.{origins_total, exact_origins}
use Rattle.dac_wishes.specs.StoredDrains.{drains_of}
use Rattle.dac_wishes.proofs.VoteStoring.{votes_value_of-join}
use Rattle.dac_wishes.proofs.drains.Drains.join_with_context.Goals as goal

pub join_with_context-requires : goal.join_with_context-requires
join_with_context-requires c = rw (← c.self.view_is, ← c.other.view_is) at c.requires

pub returns : goal.returns
returns c = rw (← c.self.view_is, ← c.other.view_is) (ap drains_of c.in_ok-causal.ensures ∙ votes_value_of-join origins_total exact_origins _ _ c.self.invariant c.other.invariant)
