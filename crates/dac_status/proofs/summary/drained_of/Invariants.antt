use Rattle.std.proofs.Common.{◌≡◌, false, map}
use Rattle.dac_status.proofs.Common.{range_with_len, MAX_NODES, placed, drains_live}
use Rattle.dac_status.proofs.Places.{node_numbered}
use Rattle.dac_status.proofs.summary.drained_of.Given as goal

abbrev pub invariant-loop-number : goal.invariant-loop-number
invariant-loop-number l = l.drained ≡ placed MAX_NODES false (map (drains_live l.state) (map node_numbered (range_with_len 0 l.number)))
