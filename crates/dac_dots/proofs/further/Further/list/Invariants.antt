use Rattle.std.proofs.Common.{◌≡◌, ◌++◌, length}
use Rattle.dac_dots.specs.Walking.{left_of}
use Rattle.dac_dots.proofs.further.Further.list.Given as goal

abbrev pub invariant-loop-n : goal.invariant-loop-n
invariant-loop-n l = l.further.items ++ left_of l.rest ≡ l.self

abbrev pub decreases-loop-n : goal.decreases-loop-n
decreases-loop-n l = length (left_of l.rest)
