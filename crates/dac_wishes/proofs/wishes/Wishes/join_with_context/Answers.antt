use Rattle.std.proofs.Common.{◌∙◌, ap}
use Rattle.dac_wishes.specs.StoredWishes.{wishes_of}
use Rattle.dac_wishes.proofs.WishStoring.{wishes_of-join}
use Rattle.dac_wishes.proofs.wishes.Wishes.join_with_context.Goals as goal

pub join_with_context-requires : goal.join_with_context-requires
join_with_context-requires c = rw (← c.self.view_is, ← c.other.view_is) at c.requires

pub returns : goal.returns
returns c = rw (← c.self.view_is, ← c.other.view_is) (ap wishes_of c.in_ok-causal.ensures ∙ wishes_of-join _ _ c.self.invariant c.other.invariant)
