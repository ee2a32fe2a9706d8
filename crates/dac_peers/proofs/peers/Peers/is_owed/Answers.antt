use Rattle.std.proofs.Common.{◌≡◌, ap, sym, ◌∙◌}
use Rattle.dac_peers.specs.laws.Common.{PeersValue, lists_kept, node_cmp}
use Rattle.std.specs.FinSet as set
use Rattle.dac_peers.specs.Pending.{is_owed_then}
use Rattle.dac_peers.proofs.Changes.{is_owed_is, of_lists, of_none}
use Rattle.dac_peers.proofs.peers.Peers.is_owed.Goals as goal
use Rattle.dac_peers.proofs.peers.Peers.is_owed.Goals.{in-Some, in-None}

pub returns : goal.returns
returns c =
    let q = c.args.node in
    let lists = lists_kept c.self.inside.kept in
    let change = c.self.inside.pending.answer in
    let read = λ (p : PeersValue). set.contains p.owed q in
    let listed : c.match-self.listed ≡ set.contains lists.owed q = elim c.match-self.branch [
      | in-Some w ↦ w.listed-is ∙ (w.is_owed-listed.ensures ∙ (ap read w.deref.ensures ∙ of_lists read c.self.inside.kept w.in-Some.lists w.in-Some.is))
      | in-None w ↦ w.listed-is ∙ (sym (set.contains-empty node_cmp q) ∙ of_none read c.self.inside.kept w.in-None.is)
    ] in
    c.is_owed.ensures ∙ (ap (is_owed_then change q) listed ∙ (is_owed_is lists.owed change q ∙ ap read c.self.view_is))
