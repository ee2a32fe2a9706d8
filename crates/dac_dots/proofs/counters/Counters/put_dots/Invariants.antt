use Rattle.std.proofs.Common.{◌≡◌, ◌++◌, length, map}
use Rattle.dac_origins.specs.Dots.{dot}
use Rattle.dac_dots.specs.Walking.{left_of}
use Rattle.dac_dots.proofs.counters.Counters.put_dots.Given as goal

abbrev pub invariant-loop-n : goal.invariant-loop-n
invariant-loop-n l = l.dots.items ++ map (dot l.origin) (left_of l.counters) ≡ l.fn.dots.items ++ map (dot l.origin) l.self

abbrev pub decreases-loop-n : goal.decreases-loop-n
decreases-loop-n l = length (left_of l.counters)
