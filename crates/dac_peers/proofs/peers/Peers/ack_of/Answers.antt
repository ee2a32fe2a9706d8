use Rattle.std.proofs.Common.{cond, ap, sym, ◌∙◌}
use Rattle.dac_peers.specs.laws.Common.{raised}
use Rattle.dac_peers.specs.Peers.{acked_after}
use Rattle.dac_peers.proofs.Changes.{nothing_raised}
use Rattle.dac_peers.proofs.peers.Peers.ack_of.Goals as goal

pub returns-in-Some : goal.returns-in-Some
returns-in-Some c =
    let acked = c.args.self.now.acked in
    let from = c.args.message.now.from in
    let number = c.in_ok-origin.number in
    nothing_raised acked from c.in-Some.before number (sym c.number.ensures ∙ c.in-Some.is) c.if-number-before.true
    ∙ sym (ap (acked_after c.args.own c.args.count acked from) c.in_ok-origin.was ∙ ap (λ b. cond b (raised acked from number) acked) (sym c.counts.ensures ∙ c.if-not-counts.false))
