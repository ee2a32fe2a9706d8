use Rattle.dac_meaning.specs.laws.Joins.{meaning-same}
use Rattle.dac_meaning.proofs.laws.order_and_repeats.Goals as goal

pub returns : goal.returns
returns c = meaning-same
