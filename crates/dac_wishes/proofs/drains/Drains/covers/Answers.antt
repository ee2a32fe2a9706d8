use Rattle.dac_wishes.proofs.drains.Drains.covers.Goals as goal

pub returns : goal.returns
returns c = rw c.borrowed.ensures at c.covers.ensures
