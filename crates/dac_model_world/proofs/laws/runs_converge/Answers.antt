use Rattle.dac_model_world.specs.laws.Headline.{converged}
use Rattle.dac_model_world.specs.laws.Records.{records_are_histories}
use Rattle.dac_model_world.proofs.laws.runs_converge.Goals as goal

pub returns-clause-converges : goal.returns-clause-converges
returns-clause-converges c = converged

pub returns-clause-records : goal.returns-clause-records
returns-clause-records c = records_are_histories
