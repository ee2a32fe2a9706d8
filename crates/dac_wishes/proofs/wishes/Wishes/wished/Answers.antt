use Rattle.dac_wishes.proofs.wishes.Wishes.wished.Goals as goal

pub returns-clause-some : goal.returns-clause-some
returns-clause-some c = rw c.borrowed.ensures at c.wished.ensures.some
