use Rattle.dac_settle.specs.laws.AtRest.{settled_claim_nothing}
use Rattle.dac_settle.proofs.laws.settled_claim_nothing.Goals as goal

pub returns : goal.returns
returns c = settled_claim_nothing
