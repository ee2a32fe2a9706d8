use Rattle.std.proofs.Common.{◌≡◌}
use Rattle.dac_deltas.specs.BlockEnds.{AreJoined, deltas_of}
use Rattle.dac_deltas.proofs.blocks.make_all_joins.Given as goal

abbrev pub invariant-loop-i : goal.invariant-loop-i
invariant-loop-i g l = record {
  joined : AreJoined g.L.Lattice.is_value g.L.Lattice.join l.kept.items;
  same : deltas_of l.kept.items ≡ deltas_of l.fn.kept.items;
}
