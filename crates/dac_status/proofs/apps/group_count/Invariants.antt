use Rattle.std.proofs.Common.{◌≡◌, ◌<◌, ◌≤◌, ℕ, Some, None, get_or}
use Rattle.dac_status.proofs.Common.{MAX_NODES}
use Rattle.dac_status.proofs.apps.group_count.Given as goal

abbrev pub invariant-loop-number : goal.invariant-loop-number
invariant-loop-number l = record {
  few : l.count ≤ MAX_NODES;
  has : (node group : ℕ) → node < l.number → group < MAX_NODES → get_or l.groups node None ≡ Some group → group < l.count;
}
