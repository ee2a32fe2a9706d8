use Rattle.dac_origins.specs.laws.Dots.{origins_total, exact_origins}
use Rattle.dac_wishes.proofs.VoteStoring.{stored_votes}
use Rattle.dac_wishes.proofs.drains.DrainsLattice.tells_invariant.Goals as goal

pub returns : goal.returns
returns c = rw (← c.self.view_is) (stored_votes origins_total exact_origins _ c.self.invariant)
