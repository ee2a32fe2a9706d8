use Rattle.std.proofs.Common.{ap}
use Rattle.dac_wishes.specs.laws.Keys.{keys_total, exact_keys}
use Rattle.dac_wishes.specs.StoredPermits.{permissions_of}
use Rattle.dac_wishes.proofs.VoteStoring.{same_stored}
use Rattle.dac_wishes.proofs.permissions.PermissionsLattice.equal.Goals as goal

pub returns : goal.returns
returns c =
    rw (← c.self.view_is, ← c.other.view_is)
    (λ e. ap permissions_of (c.equal.ensures.0 e), λ same. c.equal.ensures.1 (same_stored keys_total exact_keys _ _ c.self.invariant c.other.invariant same))
