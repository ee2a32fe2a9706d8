use Rattle.dac_wishes.proofs.WishStoring.{stored_wishes}
use Rattle.dac_wishes.proofs.wishes.WishesLattice.tells_invariant.Goals as goal

pub returns : goal.returns
returns c = rw (← c.self.view_is) (stored_wishes _ c.self.invariant)
