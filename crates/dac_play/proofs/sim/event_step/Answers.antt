use Rattle.std.proofs.Common.{length, ap}
use Rattle.dac_play.proofs.Playing.{event_plays_if}
use Rattle.dac_play.proofs.sim.event_step.Goals as goal

pub returns-clause-plays : goal.returns-clause-plays
returns-clause-plays c =
    event_plays_if (λ v. v.items) c.answer_line.result c.args.config.now c.args.world.now c.step-answer.new.self c.args.event.now c.step-answer.result _ c.step-answer.ensures.follows
    (ap length c.operations.ensures) (ap length c.messages.ensures) c.answer_line.ensures.text c.answer_line.ensures.enough
