use Rattle.dac_wishes.proofs.drains.Drains.drained.Goals as goal

pub returns-clause-cases : goal.returns-clause-cases
returns-clause-cases c = rw c.borrowed.ensures at c.drained.ensures.cases
