use Rattle.dac_model_node.specs.laws.Shipping.{ships_in_words}
use Rattle.dac_model_node.proofs.laws.ships_in_words.Goals as goal

pub returns : goal.returns
returns c = ships_in_words
