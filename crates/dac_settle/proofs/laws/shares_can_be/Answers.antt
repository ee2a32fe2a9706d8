use Rattle.dac_settle.proofs.Shared.{shares_can_be}
use Rattle.dac_settle.proofs.laws.shares_can_be.Goals as goal

pub returns : goal.returns
returns c = shares_can_be
