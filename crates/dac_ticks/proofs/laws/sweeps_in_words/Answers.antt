use Rattle.dac_ticks.specs.laws.Words.{sweep_in_words}
use Rattle.dac_ticks.specs.laws.Again.{second_tick}
use Rattle.dac_ticks.specs.laws.TakesEffect.{commands_take_effect}
use Rattle.dac_ticks.proofs.laws.sweeps_in_words.Goals as goal

pub returns-clause-words : goal.returns-clause-words
returns-clause-words c = sweep_in_words

pub returns-clause-again : goal.returns-clause-again
returns-clause-again c = second_tick

pub returns-clause-effect : goal.returns-clause-effect
returns-clause-effect c = commands_take_effect
