use Rattle.dac_model_world.specs.laws.Common.{start}
use Rattle.dac_model_world.specs.laws.EveryList.{is_enough, runs_each_list, own_ran, each_list_converges}
use Rattle.dac_model_world.proofs.laws.every_list_converges.Goals as goal

pub returns-clause-run : goal.returns-clause-run
returns-clause-run c = runs_each_list

pub returns-clause-enough : goal.returns-clause-enough
returns-clause-enough c = λ t events. is_enough t (start t) events

pub returns-clause-shown : goal.returns-clause-shown
returns-clause-shown c = own_ran

pub returns-clause-converges : goal.returns-clause-converges
returns-clause-converges c = each_list_converges
