use Rattle.std.proofs.Common.{◌≤◌, drop, length}
use Rattle.dac_lattice.proofs.pieces.join_deltas.Given as goal

abbrev pub invariant-loop-i : goal.invariant-loop-i
invariant-loop-i g l = record {
  within : l.i ≤ length l.operations;
  value : g.P.Lattice.is_value l.joined;
  means : g.P.Piece.means (drop l.i l.operations) l.joined;
}

abbrev pub decreases-loop-i : goal.decreases-loop-i
decreases-loop-i g l = l.i
