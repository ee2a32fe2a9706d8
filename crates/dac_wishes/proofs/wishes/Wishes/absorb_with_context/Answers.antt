use Rattle.std.proofs.Common.{◌∙◌, sym, ap, subst}
use Rattle.dac_wishes.specs.StoredWishes.{AreStoredDots, wishes_of}
use Rattle.dac_wishes.proofs.WishStoring.{joined_stored, wishes_of-join}
use Rattle.dac_wishes.proofs.wishes.Wishes.absorb_with_context.Goals as goal

pub invariant_of-self-2 : goal.invariant_of-self-2
invariant_of-self-2 c = subst AreStoredDots (sym c.in_ok-absorb_with_context.ensures.ok) (joined_stored _ _ c.self.invariant c.other.invariant)

pub invariant_of-self : goal.invariant_of-self
invariant_of-self c = subst AreStoredDots (sym c.in_err-absorb_with_context.ensures.err) c.self.invariant

pub returns-clause-ok : goal.returns-clause-ok
returns-clause-ok c = rw (← c.self.view_is, ← c.other.view_is) (ap wishes_of c.in_ok-absorb_with_context.ensures.ok ∙ wishes_of-join _ _ c.self.invariant c.other.invariant)
