use Rattle.std.proofs.Common.{◌≡◌, ap, sym, ◌∙◌}
use Rattle.dac_peers.specs.laws.Common.{PeersValue, lists_kept, origin_cmp}
use Rattle.std.specs.FinMap as map
use Rattle.dac_peers.specs.Pending.{number_then}
use Rattle.dac_peers.proofs.Changes.{number_is, of_lists, of_none}
use Rattle.dac_peers.proofs.peers.Peers.number.Goals as goal
use Rattle.dac_peers.proofs.peers.Peers.number.Goals.{in-Some, in-None}

pub returns : goal.returns
returns c =
    let q = c.args.origin in
    let lists = lists_kept c.self.inside.kept in
    let change = c.self.inside.pending.ack in
    let read = λ (p : PeersValue). map.get p.acked q in
    let listed : c.match-self.listed ≡ map.get lists.acked q = elim c.match-self.branch [
      | in-Some w ↦ w.listed-is ∙ (w.number-listed.ensures ∙ (ap read w.deref.ensures ∙ of_lists read c.self.inside.kept w.in-Some.lists w.in-Some.is))
      | in-None w ↦ w.listed-is ∙ (sym (map.get-empty origin_cmp q) ∙ of_none read c.self.inside.kept w.in-None.is)
    ] in
    c.number.ensures ∙ (ap (number_then change q) listed ∙ (number_is lists.acked change q ∙ ap read c.self.view_is))
