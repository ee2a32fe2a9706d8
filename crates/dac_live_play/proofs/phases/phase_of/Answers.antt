use Rattle.std.proofs.Common.{arith}
use Rattle.std.proofs.lemmas.Grind.{common_steps}
use Rattle.dac_live_play.proofs.Asking.{asked_more}
use Rattle.dac_live_play.proofs.phases.phase_of.Goals as goal
use Rattle.dac_live_play.proofs.phases.phase_of.Goals.{in-Some+in_ok-push, in_default}

pub loop-line-preserved : goal.loop-line-preserved
loop-line-preserved c =
    let more = asked_more c.args.part.now c.loop-line.line-index _ c.asked_by.result c.loop-line-test.true c.line-item.is c.asked_by.ensures in
    elim c.match-asked_by.branch [ in-Some+in_ok-push w ↦ grind (arith, common_steps) | in_default w ↦ grind (arith, common_steps) ]
