use Rattle.std.proofs.Common.{ap}
use Rattle.dac_origins.specs.laws.Dots.{origins_total, exact_origins}
use Rattle.dac_wishes.specs.StoredDrains.{drains_of}
use Rattle.dac_wishes.proofs.VoteStoring.{same_stored}
use Rattle.dac_wishes.proofs.drains.DrainsLattice.equal.Goals as goal

pub returns : goal.returns
returns c =
    rw (← c.self.view_is, ← c.other.view_is)
    (λ e. ap drains_of (c.equal.ensures.0 e), λ same. c.equal.ensures.1 (same_stored origins_total exact_origins _ _ c.self.invariant c.other.invariant same))
