use Rattle.std.proofs.Common.{◌≡◌, None, map}
use Rattle.dac_status.proofs.Common.{range_with_len, MAX_NODES, placed}
use Rattle.std.specs.FinMap as finmap
use Rattle.dac_status.proofs.Places.{node_numbered}
use Rattle.dac_status.proofs.summary.lives_of.Given as goal

abbrev pub invariant-loop-number : goal.invariant-loop-number
invariant-loop-number l = l.lives ≡ placed MAX_NODES None (map (finmap.get l.state.lives) (map node_numbered (range_with_len 0 l.number)))
