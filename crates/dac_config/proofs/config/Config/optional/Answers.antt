use Rattle.std.proofs.Common.{refl}
use Rattle.dac_config.proofs.config.Config.optional.Goals as goal

pub returns : goal.returns
returns c = rw c.node.ensures refl
