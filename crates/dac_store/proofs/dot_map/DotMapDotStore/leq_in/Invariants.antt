use Rattle.std.proofs.Common.{length}
use Rattle.dac_store.proofs.BelowLemmas.{IsWalking}
use Rattle.dac_store.proofs.dot_map.DotMapDotStore.leq_in.Given as goal

abbrev pub invariant-loop-chunk : goal.invariant-loop-chunk
invariant-loop-chunk g l =
    let s = g.S.DotStore in
    IsWalking g.K.Ord.cmp s.nothing s.below l.heard l.other_heard l.self l.other l.mine l.chunks

abbrev pub decreases-loop-chunk : goal.decreases-loop-chunk
decreases-loop-chunk g l = length l.chunks
