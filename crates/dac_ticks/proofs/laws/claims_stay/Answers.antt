use Rattle.dac_ticks.specs.laws.Staying.{claims_stay, claims_are_later}
use Rattle.dac_ticks.proofs.laws.claims_stay.Goals as goal

pub returns-clause-stay : goal.returns-clause-stay
returns-clause-stay c = claims_stay

pub returns-clause-later : goal.returns-clause-later
returns-clause-later c = claims_are_later
