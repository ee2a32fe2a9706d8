use Rattle.dac_model_node.proofs.Dropping.{drops_in_words}
use Rattle.dac_model_node.proofs.laws.drops_in_words.Goals as goal

pub returns : goal.returns
returns c = drops_in_words
