use Rattle.std.proofs.Common.{◌∙◌, ap, sym}
use Rattle.std.specs.List.{slice_get}
use Rattle.dac_sorted.specs.laws.Parted.{fewer_left}
use Rattle.dac_sorted.proofs.ChunkLemmas.{get_first, get_later, looked_up}
use Rattle.dac_sorted.proofs.map.SortedMap.nth.Goals as goal

pub loop-chunk-init : goal.loop-chunk-init
loop-chunk-init g c = ap (λ m. slice_get m c.args.i) c.chunks-chunks.ensures

pub loop-chunk-preserved : goal.loop-chunk-preserved
loop-chunk-preserved g c =
    get_later c.loop-chunk.chunks c.in-Some.chunk.entries.now c.next.new.self c.loop-chunk.left c.in-Some.ensures.parted c.if-left-chunk.false
    ∙ c.loop-chunk.invariant

pub loop-chunk-smaller : goal.loop-chunk-smaller
loop-chunk-smaller g c = fewer_left c.loop-chunk.chunks c.in-Some.chunk.entries.now c.next.new.self c.in-Some.ensures.parted c.in-Some.ensures.some

pub returns-then-left-chunk : goal.returns-then-left-chunk
returns-then-left-chunk g c =
    looked_up c.in-Some.chunk.entries.now c.loop-chunk.left c.get.result c.if-left-chunk.true c.get.ensures.lookup
    ∙ get_first c.loop-chunk.chunks c.in-Some.chunk.entries.now c.next.new.self c.loop-chunk.left c.in-Some.ensures.parted c.if-left-chunk.true
    ∙ c.loop-chunk.invariant

pub returns : goal.returns
returns g c = ap (λ m. slice_get m c.loop-chunk.left) (sym c.in_default.ensures.0) ∙ c.loop-chunk.invariant
