use Rattle.dac_model_node.specs.laws.Gates.{ticks_open, open_stays, open_is_open}
use Rattle.dac_model_node.proofs.laws.open_gates_stay.Goals as goal

pub returns-clause-opened : goal.returns-clause-opened
returns-clause-opened c = ticks_open

pub returns-clause-stays : goal.returns-clause-stays
returns-clause-stays c = open_stays

pub returns-clause-found : goal.returns-clause-found
returns-clause-found c = open_is_open
