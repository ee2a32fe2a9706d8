use Rattle.std.specs.Vec.Iter.{into_iter_items}
use Rattle.dac_deltas.proofs.Joining.{AreAdded}
use Rattle.dac_deltas.proofs.blocks.add_all.Given as goal

abbrev pub invariant-loop-delta : goal.invariant-loop-delta
invariant-loop-delta g l = AreAdded g.L.Lattice.is_value g.L.Lattice.join l.fn.kept.items l.fn.deltas.items l.kept.items (into_iter_items l.delta-iterator)
