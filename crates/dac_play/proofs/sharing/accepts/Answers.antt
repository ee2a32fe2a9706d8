use Rattle.dac_play.proofs.Shares.{accepts_if}
use Rattle.dac_play.proofs.sharing.accepts.Goals as goal

pub returns-clause-answers : goal.returns-clause-answers
returns-clause-answers c =
    accepts_if c.was_accepted.result c.args.config.now c.args.world.now c.pass-answer.new.self c.args.event.now c.pass-answer.result c.pass-answer.ensures.passes c.was_accepted.ensures.known c.was_accepted.ensures.enough
