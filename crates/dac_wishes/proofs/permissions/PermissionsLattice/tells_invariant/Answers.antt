use Rattle.dac_wishes.specs.laws.Keys.{keys_total, exact_keys}
use Rattle.dac_wishes.proofs.VoteStoring.{stored_votes}
use Rattle.dac_wishes.proofs.permissions.PermissionsLattice.tells_invariant.Goals as goal

pub returns : goal.returns
returns c = rw (← c.self.view_is) (stored_votes keys_total exact_keys _ c.self.invariant)
