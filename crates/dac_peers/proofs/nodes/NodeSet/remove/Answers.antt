use Rattle.std.proofs.Common.{not, ◌&&◌, ap, sym, ◌∙◌}
use Rattle.dac_peers.specs.laws.Common.{eq_by_cmp, node_cmp, nodes_total, exact_nodes}
use Rattle.std.specs.FinSet as set
use Rattle.dac_peers.proofs.nodes.NodeSet.remove.Goals as goal

pub returns : goal.returns
returns c =
    let now = c.args.self.now in
    let node = c.args.node in
    set.same_set nodes_total exact_nodes _ _ (λ q.
    set.contains-from_list nodes_total c.remove_key.new.keys.items q
    ∙ (c.remove_key.ensures.value q
    ∙ (ap (λ b. not (eq_by_cmp node_cmp q node) && b) (sym (set.contains-from_list nodes_total c.self.inside.nodes.items q) ∙ ap (λ s. set.contains s q) c.self.view_is)
    ∙ sym (set.contains-remove nodes_total now node q))))
