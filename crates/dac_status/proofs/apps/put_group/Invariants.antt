use Rattle.std.proofs.Common.{◌≡◌, ◌<◌, ◌≤◌, ◌-◌, ◌++◌, [], Some, None, get_or}
use Rattle.dac_status.proofs.Common.{node_count, member_in}
use Rattle.dac_status.proofs.Places.{node_numbered}
use Rattle.dac_status.proofs.Lines.{texts}
use Rattle.dac_status.proofs.apps.put_group.Given as goal

abbrev pub invariant-loop-number : goal.invariant-loop-number
invariant-loop-number l = record {
  text : l.text.items ≡ l.fn.text.items ++ texts node_numbered (λ node. member_in (get_or l.labels node.0 []) (get_or l.groups node.0 None) l.marks l.group node) l.number;
  within : l.number ≤ node_count l.config;
  there : l.number < node_count l.config → get_or l.groups l.number None ≡ Some l.group;
}

abbrev pub decreases-loop-number : goal.decreases-loop-number
decreases-loop-number l = node_count l.config - l.number
