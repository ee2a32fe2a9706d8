use Rattle.dac_wishes.proofs.permissions.Permissions.covers.Goals as goal

pub returns : goal.returns
returns c = rw c.borrowed.ensures at c.covers.ensures
