use Rattle.std.proofs.Common.{◌≡◌, ◌+◌, ◌-◌, ◌%◌, ◌≤◌, ◌^◌}
use Rattle.dac_deltas.specs.declared.blocks.TheConstants.{MOST_LEVEL}
use Rattle.dac_deltas.proofs.blocks.level_at.Given as goal

abbrev pub invariant-loop-level : goal.invariant-loop-level
invariant-loop-level l = record {
  small : l.level ≤ MOST_LEVEL;
  longer : l.longer ≡ 2 ^ (l.level + 1);
  aligned : l.number % 2 ^ l.level ≡ 0;
  fits : 2 ^ l.level ≤ l.most;
}

abbrev pub decreases-loop-level : goal.decreases-loop-level
decreases-loop-level l = MOST_LEVEL - l.level
