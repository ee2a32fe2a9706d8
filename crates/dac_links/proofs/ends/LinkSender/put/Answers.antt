use Rattle.dac_links.proofs.Relays.{sends}
use Rattle.dac_links.proofs.ends.LinkSender.put.Goals as goal

pub send_as-requires-clause-rule : goal.send_as-requires-clause-rule
send_as-requires-clause-rule g c = (sends _ _ _ _ c.args.self.now.may, λ items views holds at. tt)
