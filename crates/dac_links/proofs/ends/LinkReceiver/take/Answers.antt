use Rattle.dac_links.proofs.Relays.{gets}
use Rattle.dac_links.proofs.ends.LinkReceiver.take.Goals as goal

pub recv_as-requires-clause-rule : goal.recv_as-requires-clause-rule
recv_as-requires-clause-rule g c = (gets _ _ c.args.self.now.may, λ items views holds at. tt)
