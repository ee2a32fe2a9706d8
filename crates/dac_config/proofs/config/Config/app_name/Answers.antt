use Rattle.std.proofs.Common.{refl}
use Rattle.dac_config.proofs.config.Config.app_name.Goals as goal

pub returns : goal.returns
returns c = rw c.entry.ensures.row refl
