use Rattle.std.proofs.Common.{◌≤◌}
use Rattle.dac_deltas.proofs.blocks.longest_joined.Given as goal

abbrev pub invariant-loop-level : goal.invariant-loop-level
invariant-loop-level g l = l.level ≤ l.most

abbrev pub decreases-loop-level : goal.decreases-loop-level
decreases-loop-level g l = l.level
