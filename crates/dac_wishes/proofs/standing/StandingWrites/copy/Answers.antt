use Rattle.dac_wishes.proofs.standing.StandingWrites.copy.Goals as goal

pub invariant_of-result : goal.invariant_of-result
invariant_of-result c = rw (c.in_ok-known.ensures, c.in_ok-permits.ensures, c.in_ok-starts.ensures, c.in_ok-drains.ensures) c.self.invariant

pub returns : goal.returns
returns c = rw (c.in_ok-known.ensures, c.in_ok-permits.ensures, c.in_ok-starts.ensures, c.in_ok-drains.ensures) c.self.view_is
