use Rattle.dac_model_node.specs.laws.Again.{second_tick_claims_nothing}
use Rattle.dac_model_node.proofs.laws.second_tick_claims_nothing.Goals as goal

pub returns : goal.returns
returns c = second_tick_claims_nothing
