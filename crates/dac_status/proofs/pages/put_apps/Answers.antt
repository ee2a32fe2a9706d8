use Rattle.std.proofs.Common.{◌∙◌}
use Rattle.dac_status.proofs.Common.{app_lines}
use Rattle.dac_status.proofs.Places.{app_numbered}
use Rattle.dac_status.proofs.Lines.{put_more}
use Rattle.dac_status.proofs.pages.put_apps.Goals as goal

pub loop-number-preserved : goal.loop-number-preserved
loop-number-preserved c =
    c.in_ok-put_app.ensures
    ∙ put_more app_numbered (app_lines c.args.config.now c.args.summary.now.apps) c.loop-number.number c.args.text.now.items c.loop-number.text.items c.loop-number.invariant
