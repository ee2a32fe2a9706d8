use Rattle.std.proofs.Common.{◌∙◌, refl, sym}
use Rattle.std.proofs.lemmas.Bool.{false≢true}
use Rattle.dac_sorted.specs.laws.Parted.{fewer_left, walk_end, walk_here, walk_next, walk_start}
use Rattle.dac_sorted.proofs.map.SortedMap.all.Goals as goal

pub loop-chunk-init : goal.loop-chunk-init
loop-chunk-init g c = walk_start (λ (e : g.row.K.Denot × g.row.V.Denot). g.T.Predicate.holds c.args.predicate.now e.0 e.1) c.chunks-chunks.result c.args.self.now c.chunks-chunks.ensures

pub chunk_passes-requires : goal.chunk_passes-requires
chunk_passes-requires g c = c.in-Some.ensures.said

pub loop-chunk-preserved : goal.loop-chunk-preserved
loop-chunk-preserved g c =
    walk_next (λ (e : g.row.K.Denot × g.row.V.Denot). g.T.Predicate.holds c.args.predicate.now e.0 e.1) c.loop-chunk.chunks c.in-Some.chunk.entries.now c.next.new.self c.args.self.now c.in-Some.ensures.parted c.loop-chunk.invariant
    (c.chunk_passes.ensures.0 c.if-not-chunk_passes.false)

pub loop-chunk-smaller : goal.loop-chunk-smaller
loop-chunk-smaller g c = fewer_left c.loop-chunk.chunks c.in-Some.chunk.entries.now c.next.new.self c.in-Some.ensures.parted c.in-Some.ensures.some

pub returns-then-not-chunk_passes : goal.returns-then-not-chunk_passes
returns-then-not-chunk_passes g c = (
  λ e. absurd (false≢true e),
  λ all. absurd (false≢true (sym c.if-not-chunk_passes.true ∙ c.chunk_passes.ensures.1
      (walk_here (λ (e : g.row.K.Denot × g.row.V.Denot). g.T.Predicate.holds c.args.predicate.now e.0 e.1) c.loop-chunk.chunks c.in-Some.chunk.entries.now c.next.new.self c.args.self.now c.in-Some.ensures.parted c.loop-chunk.invariant all))),
)

pub returns : goal.returns
returns g c = (
  λ _. walk_end (λ (e : g.row.K.Denot × g.row.V.Denot). g.T.Predicate.holds c.args.predicate.now e.0 e.1) c.loop-chunk.chunks c.args.self.now c.in_default.ensures.0 c.loop-chunk.invariant,
  λ _. refl,
)
