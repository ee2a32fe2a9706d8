use Rattle.dac_play.proofs.Shares.{told_nothing, told_one}
use Rattle.dac_play.proofs.sharing.tell.Goals as goal

pub returns-then-not-shipped-clause-leads : goal.returns-then-not-shipped-clause-leads
returns-then-not-shipped-clause-leads c =
    told_nothing c.args.config.now c.args.world.now c.accepts.new.world c.args.pair (rw c.if-not-shipped.true at c.in_ok-shipped.ensures.answers)

pub returns-clause-leads : goal.returns-clause-leads
returns-clause-leads c =
    told_one c.args.config.now c.args.world.now c.accepts.new.world c.accepts-2.new.world c.args.pair _ (rw c.if-not-shipped.false at c.in_ok-shipped.ensures.answers)
    (rw c.messages.ensures at c.in_ok-_heard.ensures.answers)
