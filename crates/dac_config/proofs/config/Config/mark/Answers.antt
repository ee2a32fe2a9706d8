use Rattle.std.proofs.Common.{[]}
use Rattle.dac_config.proofs.config.Config.mark.Goals as goal

pub returns : goal.returns
returns c = c.put.ensures.held [] c.new-mark.ensures
