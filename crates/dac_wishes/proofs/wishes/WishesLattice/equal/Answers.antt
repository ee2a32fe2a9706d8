use Rattle.std.proofs.Common.{ap}
use Rattle.dac_wishes.specs.StoredWishes.{wishes_of}
use Rattle.dac_wishes.proofs.WishStoring.{same_stored}
use Rattle.dac_wishes.proofs.wishes.WishesLattice.equal.Goals as goal

pub returns : goal.returns
returns c =
    rw (← c.self.view_is, ← c.other.view_is)
    (λ e. ap wishes_of (c.equal.ensures.0 e), λ same. c.equal.ensures.1 (same_stored _ _ c.self.invariant c.other.invariant same))
