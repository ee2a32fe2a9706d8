use Rattle.std.proofs.Common.{◌≡◌, IfOk, ap, sym, subst, ◌∙◌}
use Rattle.dac_peers.specs.laws.Common.{PeersValue}
use Rattle.std.specs.FinSet as set
use Rattle.dac_peers.specs.Pending.{answer_done}
use Rattle.dac_peers.proofs.Changes.{never_owed}
use Rattle.dac_peers.proofs.peers.Peers.shipped_to.Goals as goal
use Rattle.dac_peers.proofs.peers.Peers.shipped_to.Goals.{then-is_owed, else-is_owed}

pub returns : goal.returns
returns c =
    let now = c.args.self.now in
    let to = c.args.to in
    let owed : answer_done now.owed c.if-is_owed.answer ≡ set.remove now.owed to = elim c.if-is_owed.branch [
      | then-is_owed w ↦ ap (answer_done now.owed) w.answer-is
      | else-is_owed w ↦ ap (answer_done now.owed) w.answer-is ∙ never_owed now.owed to (sym c.is_owed.ensures ∙ w.if-is_owed.false)
    ] in
    subst (λ (v : PeersValue). IfOk c.with.result (λ peers. peers ≡ v)) (λ i. record { acked = now.acked; got = now.got; owed = owed i }) c.with.ensures
