use Rattle.std.proofs.Common.{subst}
use Rattle.dac_sorted.specs.laws.Parted.{fewer_left}
use Rattle.dac_store.proofs.ChunkLemmas.{IsFilling, all_filled, filling_more, filling_start}
use Rattle.dac_store.proofs.dot_map.DotMapDotStore.fill.Goals as goal

pub loop-chunk-init : goal.loop-chunk-init
loop-chunk-init g c = filling_start g.S.DotStore.has c.args.self.now c.chunks-chunks.result c.args.filter.now.slots (rw c.self.view_is at c.chunks-chunks.ensures)

pub loop-chunk-preserved : goal.loop-chunk-preserved
loop-chunk-preserved g c =
    filling_more g.S.DotStore.has c.args.self.now c.loop-chunk.chunks c.in-Some.chunk.entries.now c.next.new.self c.args.filter.now.slots c.loop-chunk.filter.slots c.fill_each.new.filter.slots
    c.in-Some.ensures.parted c.loop-chunk.invariant c.fill_each.ensures.own c.fill_each.ensures.more

pub loop-chunk-smaller : goal.loop-chunk-smaller
loop-chunk-smaller g c = fewer_left c.loop-chunk.chunks c.in-Some.chunk.entries.now c.next.new.self c.in-Some.ensures.parted c.in-Some.ensures.some

pub returns-clause-own : goal.returns-clause-own
returns-clause-own g c =
    all_filled g.S.DotStore.has c.args.self.now c.args.filter.now.slots c.loop-chunk.filter.slots
    (subst (λ m. IsFilling g.S.DotStore.has c.args.self.now m c.args.filter.now.slots c.loop-chunk.filter.slots) c.in_default.ensures.0 c.loop-chunk.invariant)

pub returns-clause-more : goal.returns-clause-more
returns-clause-more g c = c.loop-chunk.invariant.more
