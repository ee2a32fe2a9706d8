use Rattle.std.specs.Prelude.{unwrap_or}
use Rattle.std.proofs.Common.{◌≡◌, ◌-◌, refl, List, fold, drop, length, ap, ◌∙◌, arith}
use Rattle.std.proofs.lemmas.List.{length-map}
use Rattle.std.proofs.lemmas.Result.{IfOk-from_err}
use Rattle.dac_deltas.specs.KeptDeltas.{KeptDeltas, numbered_from}
use Rattle.dac_deltas.specs.BlockEnds.{deltas_of}
use Rattle.dac_deltas.proofs.Joining.{joining_one, joining_all}
use Rattle.dac_deltas.proofs.Keeping.{whole, base_is}
use Rattle.dac_deltas.proofs.buffer.Buffer.computed_from.Goals as goal

pub longest_joined-level-requires-clause-low : goal.longest_joined-level-requires-clause-low
longest_joined-level-requires-clause-low g c = c.level_at-most.ensures.small

pub longest_joined-level-requires-clause-fits : goal.longest_joined-level-requires-clause-fits
longest_joined-level-requires-clause-fits g c =
    let is_value = g.L.Lattice.is_value in
    let join = g.L.Lattice.join in
    let count = c.self.inside.count in
    let es = c.self.inside.kept.items in
    let base = base_is is_value join count es c.self.invariant.kept c.args.self.now c.base-base.result c.self.view_is c.base-base.ensures in
    let all = whole is_value join count es c.self.invariant.kept in
    let from = c.loop-at.invariant.from in
    let low = c.requires.kept in
    let shown = c.base-base.ensures in
    let fits = c.level_at-most.ensures.fits in
    omega arith

pub longest_joined-level-requires-clause-joined : goal.longest_joined-level-requires-clause-joined
longest_joined-level-requires-clause-joined g c = c.self.invariant.kept.joined

pub loop-at-preserved : goal.loop-at-preserved
loop-at-preserved g c =
    let is_value = g.L.Lattice.is_value in
    let join = g.L.Lattice.join in
    let count = c.self.inside.count in
    let es = c.self.inside.kept.items in
    let shown = c.base-base.ensures in
    let low = c.requires.kept in
    joining_one is_value join g.met.L.Lattice.laws g.L.Bottom.bottom c.base-base.result c.args.a count c.loop-at.at _ c.level_at-most.result c.longest_joined-level.result.0 (deltas_of es) (unwrap_or c.loop-at.joined g.L.Bottom.bottom) c.longest_joined-level.result.1.now _ (omega arith) c.level_at-most.ensures c.longest_joined-level.ensures.level c.loop-at-test.true refl c.longest_joined-level.ensures.join c.loop-at.invariant c.in_ok-join_on.ensures

pub loop-at-init : goal.loop-at-init
loop-at-init g c =
    let shown = ap (λ (k : KeptDeltas g.row.L.Denot). k.count) c.self.view_is in
    record { from = omega arith; to = omega arith; value = g.met.L.Bottom.bottom_value; rest = refl }

pub overflow_shl-at : goal.overflow_shl-at
overflow_shl-at g c =
    let small = c.level_at-most.ensures.small in
    let less = c.longest_joined-level.ensures.level in
    omega arith

pub returns-in_err-join_on : goal.returns-in_err-join_on
returns-in_err-join_on g c = IfOk-from_err c.from_residual.result _ c.from_residual.ensures.0

pub returns : goal.returns
returns g c =
    let is_value = g.L.Lattice.is_value in
    let join = g.L.Lattice.join in
    let count = c.self.inside.count in
    let es = c.self.inside.kept.items in
    let ds = deltas_of es in
    let a = c.args.a in
    let base = base_is is_value join count es c.self.invariant.kept c.args.self.now c.base-base.result c.self.view_is c.base-base.ensures in
    let all = whole is_value join count es c.self.invariant.kept in
    let many = length-map es (λ (x : g.row.L.Denot × List g.row.L.Denot). x.0) in
    let skip : a - c.base-base.result ≡ a - (count - length ds) = omega arith in
    let joined = joining_all is_value join g.L.Bottom.bottom c.base-base.result a count c.loop-at.at ds (unwrap_or c.loop-at.joined g.L.Bottom.bottom) (omega arith) c.loop-at-test.false c.loop-at.invariant ∙ ap (λ n. fold join g.L.Bottom.bottom (drop n ds)) skip in
    c.or_bottom.ensures ∙ (joined ∙ ap (λ (k : KeptDeltas g.row.L.Denot). fold join g.L.Bottom.bottom (numbered_from k a)) c.self.view_is)
