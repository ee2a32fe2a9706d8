use Rattle.std.proofs.Common.{length}
use Rattle.dac_store.proofs.ChunkLemmas.{IsFilling}
use Rattle.dac_store.proofs.dot_map.DotMapDotStore.fill.Given as goal

abbrev pub invariant-loop-chunk : goal.invariant-loop-chunk
invariant-loop-chunk g l = IsFilling g.S.DotStore.has l.self l.chunks l.fn.filter.slots l.filter.slots

abbrev pub decreases-loop-chunk : goal.decreases-loop-chunk
decreases-loop-chunk g l = length l.chunks
