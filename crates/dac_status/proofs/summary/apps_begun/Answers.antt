use Rattle.std.proofs.Common.{replicate, set, sym, ap, ◌∙◌, arith}
use Rattle.dac_status.proofs.Common.{app_begun, lives_of, no_app}
use Rattle.dac_status.specs.Summaries.{drained_of}
use Rattle.dac_status.proofs.Places.{app_numbered, placed_none, placed_more}
use Rattle.dac_status.proofs.summary.apps_begun.Goals as goal

pub loop-number-init : goal.loop-number-init
loop-number-init c = record {
  apps = ap (replicate 64) c.no_app-blank.ensures ∙ placed_none 64 no_app app_numbered (app_begun c.args.config.now c.args.state.now);
  state = c.of-walk.ensures.state;
  before = c.of-walk.ensures.before;
}

pub app_begun-requires-clause-lives : goal.app_begun-requires-clause-lives
app_begun-requires-clause-lives c = c.requires.lives ∙ ap (lives_of c.args.config.now) (sym c.loop-number.invariant.state)

pub app_begun-requires-clause-drained : goal.app_begun-requires-clause-drained
app_begun-requires-clause-drained c = c.requires.drained ∙ ap (drained_of c.args.config.now) (sym c.loop-number.invariant.state)

pub loop-number-preserved : goal.loop-number-preserved
loop-number-preserved c = record {
  apps =
      ap (λ summary. set c.loop-number.apps c.loop-number.number summary) (c.app_begun.ensures.value ∙ ap (λ s. app_begun c.args.config.now s (app_numbered c.loop-number.number)) c.loop-number.invariant.state)
      ∙ placed_more 64 no_app app_numbered (app_begun c.args.config.now c.args.state.now) c.loop-number.number c.loop-number.apps (omega arith) c.loop-number.invariant.apps;
  state = c.app_begun.ensures.state ∙ c.loop-number.invariant.state;
  before = c.app_begun.ensures.before;
}
