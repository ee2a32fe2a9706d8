use Rattle.dac_wishes.proofs.permissions.Permissions.permitted.Goals as goal

pub returns-clause-cases : goal.returns-clause-cases
returns-clause-cases c = rw c.borrowed.ensures at c.permitted.ensures.cases
