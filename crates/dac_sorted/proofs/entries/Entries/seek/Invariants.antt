use Rattle.std.proofs.Common.{length}
use Rattle.dac_lattice.specs.Search.{IsInOrder}
use Rattle.dac_sorted.specs.Parts.{HasSameFrom}
use Rattle.dac_sorted.proofs.entries.Entries.seek.Given as goal

abbrev pub invariant-loop-other : goal.invariant-loop-other
invariant-loop-other g l = record {
  in_order : IsInOrder g.K.Ord.cmp l.self;
  same : HasSameFrom g.K.Ord.cmp l.key l.initial.self l.self;
}

abbrev pub decreases-loop-other : goal.decreases-loop-other
decreases-loop-other g l = length l.self
