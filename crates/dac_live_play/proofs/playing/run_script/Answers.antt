use Rattle.std.proofs.Common.{List, map, sym, ap, subst, ◌∙◌}
use Rattle.dac_live_play.proofs.Common.{node_count, parts_of, AsksAs, IsReportOf}
use Rattle.std.proofs.lemmas.Result.{err_from_is_err_and}
use Rattle.dac_phases.specs.Ends.{EndPhases, rows_of}
use Rattle.dac_phases.specs.Pairs.{SeatsHold}
use Rattle.dac_phases.specs.Phases.{FallIntoPhases}
use Rattle.dac_sites.specs.Journals.{JournalValue}
use Rattle.dac_weave.specs.Cut.{AreEnds}
use Rattle.dac_weave.specs.Phased.{GivesPhases, IsPhaseFault}
use Rattle.dac_live_play.specs.Runs.{IsReport}
use Rattle.dac_live_play.specs.Texts.{run_text}
use Rattle.dac_live_play.proofs.Owed.{phases_owe}
use Rattle.dac_live_play.proofs.Reports.{no_error, asks_script, weave_fails, few_journals, are_ends, woven, have_callers}
use Rattle.dac_live_play.proofs.playing.run_script.Goals as goal

pub run_live-requires-after_bounds : goal.run_live-requires-after_bounds
run_live-requires-after_bounds g c κs within =
    phases_owe (node_count c.args.config.now) c.args.script.now c.as_slice-asked.result.now c.requires
    (asks_script c.args.script.now c.as_slice-asked.result.now c.in_ok-phases.phases.items c.deref.result.now c.in_ok-parts.parts.items c.as_slice-asked.ensures.value c.in_ok-phases.ensures c.deref.ensures.value c.in_ok-parts.ensures)

pub phase_ends-requires : goal.phase_ends-requires
phase_ends-requires g c =
    let asked = c.as_slice-asked.result.now in
    let run = c.in_ok-report.ensures in
    let asks : AsksAs asked (parts_of c.args.script.now) = asks_script c.args.script.now asked c.in_ok-phases.phases.items c.deref.result.now c.in_ok-parts.parts.items c.as_slice-asked.ensures.value c.in_ok-phases.ensures c.deref.ensures.value c.in_ok-parts.ensures in
    record {
      few = few_journals (node_count c.args.config.now) c.as_slice-journals.result.now c.in_ok-report.report.closed c.as_slice-journals.ensures run.nodes (λ many. no_error _ _ (run.many many));
      callers = have_callers (node_count c.args.config.now) asked (phases_owe (node_count c.args.config.now) c.args.script.now asked c.requires asks);
      seats = subst SeatsHold (sym c.as_slice-journals.ensures) run.seats;
      falls = subst (FallIntoPhases asked) (sym c.as_slice-journals.ensures) run.phases;
    }

pub weave_phases-requires : goal.weave_phases-requires
weave_phases-requires g c =
    let asked = c.as_slice-asked.result.now in
    let asks : AsksAs asked (parts_of c.args.script.now) = asks_script c.args.script.now asked c.in_ok-phases.phases.items c.deref.result.now c.in_ok-parts.parts.items c.as_slice-asked.ensures.value c.in_ok-phases.ensures c.deref.ensures.value c.in_ok-parts.ensures in
    subst (λ rows. AreEnds c.as_slice-journals.result.now (rows_of rows)) (sym c.deref-2.ensures.value) (are_ends c.args.script.now asked c.as_slice-journals.result.now (rows_of c.in_ok-ends.ends.items) asks c.in_ok-ends.ensures)

pub returns-in_err-run-clause-fault : goal.returns-in_err-run-clause-fault
returns-in_err-run-clause-fault g c =
    let t = c.args.config.now in
    let asked = c.as_slice-asked.result.now in
    let asks : AsksAs asked (parts_of c.args.script.now) = asks_script c.args.script.now asked c.in_ok-phases.phases.items c.deref.result.now c.in_ok-parts.parts.items c.as_slice-asked.ensures.value c.in_ok-phases.ensures c.deref.ensures.value c.in_ok-parts.ensures in
    let run = c.in_ok-report.ensures in
    let report = c.in_ok-report.report in
    let is : IsReport t asked report = record { nodes = run.nodes; histories = run.histories; seats = run.seats; links = run.links; falls = run.phases; pages = run.pages; callers = run.callers; lines = run.lines; reads = run.reads } in
    let reported : IsReportOf t c.args.script.now report = record { phases = asked; asks = asks; few = λ many. no_error _ _ (run.many many); is = is } in
    let rows = rows_of c.in_ok-ends.ends.items in
    let fault = c.in_err-run.field-0.0 in
    let end : EndPhases asked report.closed rows = subst (λ (js : List JournalValue). EndPhases asked js rows) c.as_slice-journals.ensures c.in_ok-ends.ensures in
    let stops : IsPhaseFault t c.as_slice-journals.result.now rows fault = subst (λ ends. IsPhaseFault t c.as_slice-journals.result.now (rows_of ends) fault) c.deref-2.ensures.value c.in_err-run.ensures.unwoven in
    let p = err_from_is_err_and c.from_residual-in_err-run.result c.from_residual-in_err-run.ensures.1 in
    rw p.1 (weave_fails t c.args.script.now report fault p.0 reported rows end (subst (λ (js : List JournalValue). IsPhaseFault t js rows fault) c.as_slice-journals.ensures stops) p.2)

pub returns-clause-ok : goal.returns-clause-ok
returns-clause-ok g c =
    let t = c.args.config.now in
    let asked = c.as_slice-asked.result.now in
    let asks : AsksAs asked (parts_of c.args.script.now) = asks_script c.args.script.now asked c.in_ok-phases.phases.items c.deref.result.now c.in_ok-parts.parts.items c.as_slice-asked.ensures.value c.in_ok-phases.ensures c.deref.ensures.value c.in_ok-parts.ensures in
    let run = c.in_ok-report.ensures in
    let report = c.in_ok-report.report in
    let is : IsReport t asked report = record { nodes = run.nodes; histories = run.histories; seats = run.seats; links = run.links; falls = run.phases; pages = run.pages; callers = run.callers; lines = run.lines; reads = run.reads } in
    let reported : IsReportOf t c.args.script.now report = record { phases = asked; asks = asks; few = λ many. no_error _ _ (run.many many); is = is } in
    let rows = rows_of c.in_ok-ends.ends.items in
    let made = c.in_ok-run.run' in
    let weaves = c.in_ok-run.ensures in
    record {
      report = report;
      reported = reported;
      woven = woven t asked report c.as_slice-journals.result.now rows made c.as_slice-journals.ensures (record {
        end = c.in_ok-ends.ensures;
        gives = weaves.woven;
        in_phases = subst (λ ends. GivesPhases t c.as_slice-journals.result.now made.events.items (rows_of ends) made.bounds.items) c.deref-2.ensures.value weaves.phases;
        copies = weaves.copies;
        seats = weaves.seats;
        recorded = weaves.recorded;
        converges = weaves.converges;
      });
      text_is = c.in_ok-text.ensures ∙ ap (λ parts. run_text t (map (λ part. part.now) parts) report) c.deref-3.ensures.value ∙ ap (λ parts. run_text t parts report) c.in_ok-parts.ensures;
    }
