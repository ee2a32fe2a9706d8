use Rattle.std.specs.Prelude.{IfSome, slice_set}
use Rattle.std.proofs.Common.{List, ap, subst, ◌∙◌, arith}
use Rattle.dac_deltas.specs.BlockEnds.{IsNextJoin}
use Rattle.dac_deltas.proofs.Levels.{below_longest}
use Rattle.dac_deltas.proofs.Joining.{joined_more, same_long}
use Rattle.dac_deltas.proofs.blocks.make_joins.Goals as goal

pub doubled-requires-clause-fits : goal.doubled-requires-clause-fits
doubled-requires-clause-fits g c =
    let fits = below_longest _ _ _ c.loop-level.level c.level_at-level-end.ensures (omega arith) in
    omega arith

pub loop-level-preserved : goal.loop-level-preserved
loop-level-preserved g c =
    let is_value = g.L.Lattice.is_value in
    let join = g.L.Lattice.join in
    let es = c.loop-level.kept.items in
    let i = c.args.i in
    let e = c.index_mut.result.now in
    let same = same_long es c.args.kept.now.items c.loop-level.invariant.same in
    let next = subst (λ o. IfSome o (λ joined. (e : g.row.L.Denot × List g.row.L.Denot) → IsNextJoin is_value join es i c.loop-level.level e joined)) c.in-Some.is c.in_ok-joined.ensures in
    let more = joined_more is_value join es (slice_set es i c.add_join.new.self) i c.loop-level.level e c.in-Some.joined c.loop-level.invariant.joined (omega arith) c.index_mut.ensures.value (next e) (ap (slice_set es i) c.in_ok-add_join.ensures.ok) in
    record { joined = more.0; same = more.1 ∙ c.loop-level.invariant.same }
