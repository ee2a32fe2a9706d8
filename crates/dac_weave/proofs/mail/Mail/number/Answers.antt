use Rattle.dac_weave.proofs.Mailed.{some-proper}
use Rattle.dac_weave.proofs.mail.Mail.number.Goals as goal

pub returns-in-None-clause-proper : goal.returns-in-None-clause-proper
returns-in-None-clause-proper c = some-proper c.args.self.now c.args.message.now c.number.result c.in-None.ensures c.number.ensures
