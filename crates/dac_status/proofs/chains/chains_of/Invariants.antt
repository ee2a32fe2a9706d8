use Rattle.std.proofs.Common.{◌≤◌}
use Rattle.dac_status.proofs.Common.{node_count}
use Rattle.dac_status.specs.Chains.{AreChains}
use Rattle.dac_status.proofs.chains.chains_of.Given as goal

abbrev pub invariant-loop-number : goal.invariant-loop-number
invariant-loop-number l = record {
  within : l.number ≤ node_count l.config;
  chains : AreChains l.groups (node_count l.config) l.number l.chains.first l.chains.next;
}

abbrev pub decreases-loop-number : goal.decreases-loop-number
decreases-loop-number l = l.number
