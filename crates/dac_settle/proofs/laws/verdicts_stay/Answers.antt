use Rattle.dac_settle.specs.laws.Unsettling.{verdicts_stay, restless_unsettles}
use Rattle.dac_settle.proofs.laws.verdicts_stay.Goals as goal

pub returns-clause-stays : goal.returns-clause-stays
returns-clause-stays c = verdicts_stay

pub returns-clause-refused : goal.returns-clause-refused
returns-clause-refused c = restless_unsettles
