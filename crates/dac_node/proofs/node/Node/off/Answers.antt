use Rattle.dac_model_node.specs.laws.Steps.{off_shown}
use Rattle.dac_node.proofs.node.Node.off.Goals as goal

pub returns-clause-shown : goal.returns-clause-shown
returns-clause-shown c = λ t. off_shown t c.args.last
