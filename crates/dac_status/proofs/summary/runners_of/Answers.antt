use Rattle.std.proofs.Common.{List, None, get_or, set, ap, ◌∙◌, arith}
use Rattle.dac_status.proofs.Common.{MAX_APPS, app_count, runner_of, AppSummary, app_begun, no_app}
use Rattle.dac_status.proofs.Places.{app_numbered, placed_any, placed_none, placed_more}
use Rattle.dac_status.proofs.summary.runners_of.Goals as goal

pub loop-number-init : goal.loop-number-init
loop-number-init c = placed_none MAX_APPS None app_numbered (runner_of c.args.config.now c.args.state.now)

pub loop-number-preserved : goal.loop-number-preserved
loop-number-preserved c =
    ap (λ runner. set c.loop-number.runners c.loop-number.number runner) c.runner_by.ensures
    ∙ placed_more MAX_APPS None app_numbered (runner_of c.args.config.now c.args.state.now) c.loop-number.number c.loop-number.runners (omega arith) c.loop-number.invariant

pub runner_by-requires-clause-claim : goal.runner_by-requires-clause-claim
runner_by-requires-clause-claim c =
    let n = c.loop-number.number in
    ap (λ (apps : List AppSummary). (get_or apps n _).claim) c.requires.apps
    ∙ ap (λ (a : AppSummary). a.claim) (placed_any MAX_APPS no_app app_numbered (app_begun c.args.config.now c.args.state.now) _ (app_count c.args.config.now) n (omega arith))

pub runner_by-requires-clause-marks : goal.runner_by-requires-clause-marks
runner_by-requires-clause-marks c =
    let n = c.loop-number.number in
    ap (λ (apps : List AppSummary). (get_or apps n _).marks) c.requires.apps
    ∙ ap (λ (a : AppSummary). a.marks) (placed_any MAX_APPS no_app app_numbered (app_begun c.args.config.now c.args.state.now) _ (app_count c.args.config.now) n (omega arith))
