use Rattle.std.proofs.Common.{inl, inr, ap, sym, ◌∙◌}
use Rattle.dac_peers.specs.laws.Common.{Body}
use Rattle.dac_peers.specs.Peers.{got_by}
use Rattle.dac_peers.proofs.Changes.{owed_already}
use Rattle.dac_peers.proofs.peers.Peers.answer_to.Goals as goal

pub returns-then-is_owed : goal.returns-then-is_owed
returns-then-is_owed c =
    let now = c.args.self.now in
    let message = c.args.message.now in
    let same = owed_already now.owed message.from.node (sym c.is_owed.ensures ∙ c.if-is_owed.true) in
    let owed = λ (body : Body). (got_by now message.from message.up_to body).owed in
    elim c.in-Whole.is [ inl w ↦ same ∙ sym (ap owed w.1) | inr w ↦ same ∙ sym (ap owed w.1) ]
