use Rattle.dac_settle.specs.laws.Settled.{all_settle}
use Rattle.dac_settle.specs.laws.WorldsSettle.{worlds_settle}
use Rattle.dac_settle.proofs.laws.rounds_settle.Goals as goal

pub returns-clause-members : goal.returns-clause-members
returns-clause-members c = all_settle

pub returns-clause-runs : goal.returns-clause-runs
returns-clause-runs c = worlds_settle
