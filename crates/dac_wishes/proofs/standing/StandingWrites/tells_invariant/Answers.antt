use Rattle.dac_wishes.proofs.StandingStoring.{are_standing}
use Rattle.dac_wishes.proofs.standing.StandingWrites.tells_invariant.Goals as goal

pub returns : goal.returns
returns c = rw (← c.self.view_is) (are_standing c.self.invariant)
