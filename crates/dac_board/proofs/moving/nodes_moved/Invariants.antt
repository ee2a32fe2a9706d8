use Rattle.std.proofs.Common.{◌≡◌, ◌<◌, false, length, get_or}
use Rattle.dac_base.specs.declared.NodeId.{NodeId}
use Rattle.dac_board.specs.Grown.{NodeStays}
use Rattle.dac_board.proofs.moving.nodes_moved.Given as goal

-- the nodes compared so far, and the rest still marked
abbrev pub invariant-loop-place : goal.invariant-loop-place
invariant-loop-place l = record {
  long : length l.moved ≡ 64;
  stays : (node : NodeId) → node.0 < 64 → get_or l.moved node.0 false ≡ false → NodeStays l.old l.new node;
}
