use Rattle.dac_meaning.specs.laws.StateLaws.{state_laws, bottom_least}
use Rattle.dac_meaning.proofs.Outweighed.{drained_stays, forbidden_stays}
use Rattle.dac_meaning.proofs.laws.order_of_states.Goals as goal

pub returns-clause-lattice : goal.returns-clause-lattice
returns-clause-lattice c = state_laws

pub returns-clause-least : goal.returns-clause-least
returns-clause-least c = bottom_least

pub returns-clause-drained : goal.returns-clause-drained
returns-clause-drained c = drained_stays

pub returns-clause-forbidden : goal.returns-clause-forbidden
returns-clause-forbidden c = forbidden_stays
