use Rattle.std.proofs.Common.{◌≡◌, ◌-◌, drop}
use Rattle.dac_origins.specs.Dots.{dot_cmp}
use Rattle.dac_origins.specs.Keys.{is_rising}
use Rattle.dac_operations.proofs.op.ascends.Given as goal

abbrev pub invariant-loop-i : goal.invariant-loop-i
invariant-loop-i l = is_rising dot_cmp l.dots ≡ is_rising dot_cmp (drop (l.i - 1) l.dots)
