use Rattle.dac_meaning.proofs.KeysOfMeaning.{wished_have_starts, permitted_are_said, drained_are_said}
use Rattle.dac_meaning.proofs.laws.keys_of_meaning.Goals as goal

pub returns-clause-wished : goal.returns-clause-wished
returns-clause-wished c = wished_have_starts

pub returns-clause-permitted : goal.returns-clause-permitted
returns-clause-permitted c = permitted_are_said

pub returns-clause-drained : goal.returns-clause-drained
returns-clause-drained c = drained_are_said
