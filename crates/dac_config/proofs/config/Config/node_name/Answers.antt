use Rattle.std.proofs.Common.{◌∙◌, refl}
use Rattle.dac_config.proofs.config.Config.node_name.Goals as goal

pub returns : goal.returns
returns c = c.deref.ensures.value ∙ rw c.node.ensures refl
