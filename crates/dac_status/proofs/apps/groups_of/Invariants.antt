use Rattle.std.proofs.Common.{◌≡◌, None, map}
use Rattle.dac_status.proofs.Common.{range_with_len, MAX_NODES, group_of, placed}
use Rattle.dac_status.proofs.Places.{node_numbered}
use Rattle.dac_status.proofs.apps.groups_of.Given as goal

abbrev pub invariant-loop-number : goal.invariant-loop-number
invariant-loop-number l = l.groups ≡ placed MAX_NODES None (map (group_of l.config l.app) (map node_numbered (range_with_len 0 l.number)))
