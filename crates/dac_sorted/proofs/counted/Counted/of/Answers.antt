use Rattle.std.proofs.Common.{rules}
use Rattle.dac_sorted.proofs.counted.Counted.of.Goals as goal

pub invariant_of-result : goal.invariant_of-result
invariant_of-result g c = record { in_order = c.requires; counted = c.in-Some.ensures; few = search rules }
