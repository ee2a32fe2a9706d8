use Rattle.std.proofs.Common.{◌∙◌, arith, ap, sym, subst}
use Rattle.dac_deltas.specs.KeptDeltas.{KeptDeltas, newest, trimmed}
use Rattle.dac_deltas.specs.BlockEnds.{IsReady, deltas_of}
use Rattle.dac_deltas.proofs.Intervals.{ready_cut}
use Rattle.dac_deltas.proofs.Keeping.{kept_dropped, shown_dropped, base_is, whole}
use Rattle.dac_deltas.proofs.buffer.Buffer.trim.Goals as goal

pub invariant_of-self : goal.invariant_of-self
invariant_of-self g c =
    let is_value = g.L.Lattice.is_value in
    let join = g.L.Lattice.join in
    let count = c.self.inside.count in
    let es = c.self.inside.kept.items in
    let base = base_is is_value join count es c.self.invariant.kept c.args.self.now c.base.result c.self.view_is c.base.ensures in
    let all = whole is_value join count es c.self.invariant.kept in
    let new = c.drop-drain.new.self.0.items in
    let dropped = c.drop-drain.ensures.items ∙ c.drain.ensures.kept in
    let shown = shown_dropped is_value join count es c.self.invariant.kept new c.args.n c.saturating_sub-dropped.result (omega arith) dropped in
    record {
      kept = kept_dropped is_value join count es c.self.invariant.kept new c.saturating_sub-dropped.result (omega arith) dropped;
      ready = subst (λ (k : KeptDeltas g.row.L.Denot). IsReady join g.L.Bottom.bottom k c.self.inside.ready) (sym shown) (ready_cut join g.L.Bottom.bottom (newest count (deltas_of es)) _ c.self.inside.ready c.self.invariant.ready);
    }

pub returns : goal.returns
returns g c =
    let is_value = g.L.Lattice.is_value in
    let join = g.L.Lattice.join in
    let count = c.self.inside.count in
    let es = c.self.inside.kept.items in
    let base = base_is is_value join count es c.self.invariant.kept c.args.self.now c.base.result c.self.view_is c.base.ensures in
    shown_dropped is_value join count es c.self.invariant.kept c.drop-drain.new.self.0.items c.args.n c.saturating_sub-dropped.result (omega arith) (c.drop-drain.ensures.items ∙ c.drain.ensures.kept)
    ∙ ap (λ k. trimmed k c.args.n) c.self.view_is

pub drain-requires-clause-in_bounds : goal.drain-requires-clause-in_bounds
drain-requires-clause-in_bounds g c =
    let is_value = g.L.Lattice.is_value in
    let join = g.L.Lattice.join in
    let count = c.self.inside.count in
    let es = c.self.inside.kept.items in
    let base = base_is is_value join count es c.self.invariant.kept c.args.self.now c.base.result c.self.view_is c.base.ensures in
    let all = whole is_value join count es c.self.invariant.kept in
    let long = c.self.inside.kept.ok.0 in
    omega arith
