use Rattle.std.proofs.Common.{◌∙◌, refl, sym}
use Rattle.std.proofs.lemmas.Bool.{false≢true}
use Rattle.dac_lattice.specs.laws.EntryLaws.{each_entry, each_key}
use Rattle.dac_store.specs.Below.{IsBelowAt}
use Rattle.dac_store.specs.laws.DotMaps.{at_store}
use Rattle.dac_store.proofs.BelowLemmas.{part_in_order, walked, walking_here, walking_next, walking_start}
use Rattle.dac_sorted.specs.laws.Parted.{fewer_left}
use Rattle.dac_store.proofs.dot_map.DotMapDotStore.leq_in.Goals as goal

pub loop-chunk-init : goal.loop-chunk-init
loop-chunk-init g c =
    let s = g.S.DotStore in
    walking_start g.K.Ord.cmp s.nothing s.below c.args.heard.now c.args.other_heard.now c.args.self.now c.args.other.now c.entries-mine.result c.chunks-chunks.result
    c.entries-mine.ensures (rw c.other.view_is at c.chunks-chunks.ensures) c.tells_invariant.ensures.in_order c.tells_invariant-2.ensures.in_order

pub chunk_below-requires : goal.chunk_below-requires
chunk_below-requires g c =
    let s = g.S.DotStore in
    record {
      told = c.in-Some.ensures.said;
      left = c.loop-chunk.invariant.mine_in_order;
      part = part_in_order g.K.Ord.cmp s.nothing s.below c.args.heard.now c.args.other_heard.now c.args.self.now c.args.other.now c.loop-chunk.mine c.loop-chunk.chunks c.in-Some.chunk.entries.now c.next.new.self c.in-Some.ensures.parted c.loop-chunk.invariant;
    }

pub loop-chunk-preserved : goal.loop-chunk-preserved
loop-chunk-preserved g c =
    let s = g.S.DotStore in
    let yes = c.if-not-chunk_below.false in
    walking_next g.K.Ord.cmp s.nothing s.below c.args.heard.now c.args.other_heard.now c.args.self.now c.args.other.now c.loop-chunk.mine c.loop-chunk.chunks c.in-Some.chunk.entries.now c.next.new.self c.in-Some.ensures.parted c.loop-chunk.invariant
    g.met.K.Ord.total g.met.K.MapKey.exact c.chunk_below.new.left (rw (← c.of-filtered.ensures) (c.chunk_below.ensures.below.0 yes)) c.chunk_below.ensures.in_order (c.chunk_below.ensures.later yes)

pub loop-chunk-smaller : goal.loop-chunk-smaller
loop-chunk-smaller g c = fewer_left c.loop-chunk.chunks c.in-Some.chunk.entries.now c.next.new.self c.in-Some.ensures.parted c.in-Some.ensures.some

pub returns-then-not-chunk_below : goal.returns-then-not-chunk_below
returns-then-not-chunk_below g c =
    let s = g.S.DotStore in
    let each = each_entry g.met.K.Ord.total g.met.K.MapKey.exact (IsBelowAt g.K.Ord.cmp s.nothing s.below c.args.self.now c.args.heard.now c.args.other_heard.now) c.args.other.now c.tells_invariant-2.ensures.in_order in (
      λ e. absurd (false≢true e),
      λ all. absurd (false≢true (sym c.if-not-chunk_below.true ∙ c.chunk_below.ensures.below.1
          (rw c.of-filtered.ensures (walking_here g.K.Ord.cmp s.nothing s.below c.args.heard.now c.args.other_heard.now c.args.self.now c.args.other.now c.loop-chunk.mine c.loop-chunk.chunks c.in-Some.chunk.entries.now c.next.new.self c.in-Some.ensures.parted c.loop-chunk.invariant (each all))))),
    )

pub returns : goal.returns
returns g c =
    let s = g.S.DotStore in
    let below = IsBelowAt g.K.Ord.cmp s.nothing s.below c.args.self.now c.args.heard.now c.args.other_heard.now in
    let cleared = λ (k : g.row.K.Denot). g.met.S.DotStore.laws.cleared _ c.args.heard.now c.args.other_heard.now (at_store g.met.K.Ord.total g.met.K.MapKey.exact g.met.S.DotStore.laws _ (c.tells_invariant.ensures.stores k)) in (
      λ _. each_key g.met.K.Ord.total g.met.K.MapKey.exact below cleared c.args.other.now
          (walked g.K.Ord.cmp s.nothing s.below c.args.heard.now c.args.other_heard.now c.args.self.now c.args.other.now c.loop-chunk.mine c.loop-chunk.chunks c.in_default.ensures.0 c.loop-chunk.invariant),
      λ _. refl,
    )
