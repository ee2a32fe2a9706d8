use Rattle.dac_in_form.proofs.WorkedRun.{runs_can_fit}
use Rattle.dac_in_form.proofs.WorkedState.{states_can_fit}
use Rattle.dac_in_form.proofs.laws.states_can_fit.Goals as goal

pub returns-clause-set : goal.returns-clause-set
returns-clause-set c = states_can_fit

pub returns-clause-run : goal.returns-clause-run
returns-clause-run c = runs_can_fit
