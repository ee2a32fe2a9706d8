use Rattle.std.proofs.Common.{sym, subst, arith}
use Rattle.std.proofs.lemmas.Result.{err_from_is_err_and}
use Rattle.dac_weave.specs.laws.Common.{At}
use Rattle.dac_weave.specs.Cut.{rows_of}
use Rattle.dac_weave.specs.Phased.{IsPhaseFault}
use Rattle.dac_weave.specs.laws.Recorded.{gives-recorded}
use Rattle.dac_weave.proofs.Converged.{converged}
use Rattle.dac_weave.proofs.Cutting.{unfinished-begun, precedes, at_row, unfinished-more, finished, past_rows, phase_fault}
use Rattle.dac_weave.proofs.weaving.weave_phases.Goals as goal

pub loop-row-init : goal.loop-row-init
loop-row-init c = unfinished-begun c.args.config.now c.args.journals.now (rows_of c.args.ends.now) c.in_ok-merge.merge c.new-bounds.result.items c.new-bounds.ensures.items c.in_ok-merge.ensures c.requires

pub weave_up_to-requires : goal.weave_up_to-requires
weave_up_to-requires c =
    precedes c.args.config.now c.args.journals.now c.args.ends.now c.loop-row.row-index c.loop-row.merge c.loop-row.bounds.items c.loop-row.invariant c.row-item.result c.loop-row-test.true c.row-item.is
    c.as_slice.result.now c.as_slice.ensures.value

pub loop-row-preserved : goal.loop-row-preserved
loop-row-preserved c =
    unfinished-more c.args.config.now c.args.journals.now c.args.ends.now c.loop-row.row-index c.loop-row.merge c.loop-row.bounds.items c.loop-row.invariant c.row-item.result c.loop-row-test.true c.row-item.is
    c.as_slice.result.now c.weave_up_to.new.merge c.len.result c.push.new.self.items c.as_slice.ensures.value c.in_ok-weave_up_to.ensures.rests c.in_ok-weave_up_to.ensures.gives c.in_ok-weave_up_to.ensures.continues
    (omega arith) c.in_ok-push.ensures.items

pub returns-clause-woven : goal.returns-clause-woven
returns-clause-woven c =
    (finished c.args.config.now c.args.journals.now (rows_of c.args.ends.now) c.loop-row.row-index c.loop-row.merge c.loop-row.bounds.items c.loop-row.invariant c.requires (past_rows c.args.ends.now c.loop-row.row-index c.loop-row-test.false)).gives

pub returns-clause-phases : goal.returns-clause-phases
returns-clause-phases c =
    (finished c.args.config.now c.args.journals.now (rows_of c.args.ends.now) c.loop-row.row-index c.loop-row.merge c.loop-row.bounds.items c.loop-row.invariant c.requires (past_rows c.args.ends.now c.loop-row.row-index c.loop-row-test.false)).phases

pub returns-clause-seats : goal.returns-clause-seats
returns-clause-seats c =
    (finished c.args.config.now c.args.journals.now (rows_of c.args.ends.now) c.loop-row.row-index c.loop-row.merge c.loop-row.bounds.items c.loop-row.invariant c.requires (past_rows c.args.ends.now c.loop-row.row-index c.loop-row-test.false)).seats

pub returns-clause-copies : goal.returns-clause-copies
returns-clause-copies c = c.loop-row.invariant.rests.delivers.copies

pub returns-clause-recorded : goal.returns-clause-recorded
returns-clause-recorded c =
    gives-recorded c.args.config.now c.args.journals.now c.loop-row.merge.events.items
    (finished c.args.config.now c.args.journals.now (rows_of c.args.ends.now) c.loop-row.row-index c.loop-row.merge c.loop-row.bounds.items c.loop-row.invariant c.requires (past_rows c.args.ends.now c.loop-row.row-index c.loop-row-test.false)).gives

pub returns-clause-converges : goal.returns-clause-converges
returns-clause-converges c =
    converged c.args.config.now c.args.journals.now c.loop-row.merge.events.items c.every_list_converges.ensures.converges
    (finished c.args.config.now c.args.journals.now (rows_of c.args.ends.now) c.loop-row.row-index c.loop-row.merge c.loop-row.bounds.items c.loop-row.invariant c.requires (past_rows c.args.ends.now c.loop-row.row-index c.loop-row-test.false)).gives

pub returns-in_err-weave_up_to-clause-unwoven : goal.returns-in_err-weave_up_to-clause-unwoven
returns-in_err-weave_up_to-clause-unwoven c =
    let t = c.args.config.now in
    let js = c.args.journals.now in
    let rows = rows_of c.args.ends.now in
    let p = c.loop-row.row-index in
    let row = c.as_slice.result.now in
    let fault = c.in_err-weave_up_to.field-0.0 in
    let there : At rows p row = subst (At rows p) (sym c.as_slice.ensures.value) (at_row t js c.args.ends.now p c.loop-row.merge c.loop-row.bounds.items c.loop-row.invariant c.row-item.result c.loop-row-test.true c.row-item.is) in
    let e = err_from_is_err_and c.from_residual-in_err-weave_up_to.result c.from_residual-in_err-weave_up_to.ensures.1 in
    rw e.1 (subst (IsPhaseFault t js rows) (sym e.2) (phase_fault t js rows p row fault there c.in_err-weave_up_to.ensures.unwoven c.in_err-weave_up_to.ensures.complete))
