use Rattle.std.proofs.Common.{length}
use Rattle.dac_sorted.specs.laws.Parted.{IsLeft}
use Rattle.dac_sorted.proofs.map.SortedMap.all.Given as goal

abbrev pub invariant-loop-chunk : goal.invariant-loop-chunk
invariant-loop-chunk g l = IsLeft (λ (e : g.row.K.Denot × g.row.V.Denot). g.T.Predicate.holds l.predicate e.0 e.1) l.chunks l.self

abbrev pub decreases-loop-chunk : goal.decreases-loop-chunk
decreases-loop-chunk g l = length l.chunks
