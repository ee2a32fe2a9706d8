use Rattle.dac_wishes.proofs.wishes.start_in.Goals as goal

pub returns-in-Start : goal.returns-in-Start
returns-in-Start c = rw c.in-Start.is c.start_at.ensures
