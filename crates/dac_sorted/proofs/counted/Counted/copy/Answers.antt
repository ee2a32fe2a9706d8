use Rattle.dac_sorted.proofs.counted.Counted.copy.Goals as goal

pub invariant_of-result : goal.invariant_of-result
invariant_of-result g c = rw c.in_ok-parts.ensures c.self.invariant
