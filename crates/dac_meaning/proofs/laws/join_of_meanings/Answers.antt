use Rattle.dac_meaning.specs.laws.Joins.{join-meaning}
use Rattle.dac_meaning.proofs.laws.join_of_meanings.Goals as goal

pub returns : goal.returns
returns c = join-meaning
