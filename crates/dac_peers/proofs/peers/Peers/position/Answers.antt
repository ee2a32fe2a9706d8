use Rattle.std.proofs.Common.{◌≡◌, ap, sym, ◌∙◌}
use Rattle.dac_peers.specs.laws.Common.{PeersValue, lists_kept, node_cmp}
use Rattle.std.specs.FinMap as map
use Rattle.dac_peers.specs.Pending.{position_then}
use Rattle.dac_peers.proofs.Changes.{position_is, of_lists, of_none}
use Rattle.dac_peers.proofs.peers.Peers.position.Goals as goal
use Rattle.dac_peers.proofs.peers.Peers.position.Goals.{in-Some, in-None}

pub returns : goal.returns
returns c =
    let q = c.args.node in
    let lists = lists_kept c.self.inside.kept in
    let change = c.self.inside.pending.position in
    let read = λ (p : PeersValue). map.get p.got q in
    let listed : c.match-self.listed ≡ map.get lists.got q = elim c.match-self.branch [
      | in-Some w ↦ w.listed-is ∙ (w.position-listed.ensures ∙ (ap read w.deref.ensures ∙ of_lists read c.self.inside.kept w.in-Some.lists w.in-Some.is))
      | in-None w ↦ w.listed-is ∙ (sym (map.get-empty node_cmp q) ∙ of_none read c.self.inside.kept w.in-None.is)
    ] in
    c.position.ensures ∙ (ap (position_then change q) listed ∙ (position_is lists.got change q ∙ ap read c.self.view_is))
