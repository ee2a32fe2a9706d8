use Rattle.std.proofs.Common.{map, length, ap, refl}
use Rattle.dac_config.proofs.Common.{at_drop_all, app_text}
use Rattle.dac_config.proofs.Tables.{left_at, kept_members}
use Rattle.dac_config.proofs.Gaining.{one_more, all_taken}
use Rattle.dac_config.proofs.config.text.put_apps.Goals as goal

pub entry-requires : goal.entry-requires
entry-requires g c = rw c.apps-at-end.ensures.count at c.loop-at-test.true

pub put_app-requires : goal.put_app-requires
put_app-requires g c = kept_members (length c.args.config.now.nodes) c.args.config.now.apps c.loop-at.at _ c.entry.result.1.now c.apps-at-end.ensures.members c.entry.ensures.row

pub loop-at-preserved : goal.loop-at-preserved
loop-at-preserved g c =
    let left = left_at c.args.config.now.apps c.loop-at.at _ c.entry.ensures.row in
    one_more c.loop-at.invariant (ap (map (app_text c.args.config.now.nodes)) left) c.put.ensures c.put_app.ensures refl

pub returns : goal.returns
returns g c = all_taken c.loop-at.invariant (at_drop_all (map (app_text c.args.config.now.nodes)) c.args.config.now.apps c.loop-at.at (rw c.apps-at-end.ensures.count at c.loop-at-test.false))
