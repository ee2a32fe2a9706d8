use Rattle.std.proofs.Common.{◌||◌, ap, sym, ◌∙◌}
use Rattle.dac_peers.specs.laws.Common.{eq_by_cmp, node_cmp, nodes_total, exact_nodes}
use Rattle.std.specs.FinSet as set
use Rattle.dac_peers.proofs.nodes.NodeSet.insert.Goals as goal

pub returns-clause-ok : goal.returns-clause-ok
returns-clause-ok c =
    let now = c.args.self.now in
    let node = c.args.node in
    set.same_set nodes_total exact_nodes _ _ (λ q.
    set.contains-from_list nodes_total c.insert_key.new.keys.items q
    ∙ (c.in_ok-insert_key.ensures.ok q
    ∙ (ap (λ b. eq_by_cmp node_cmp q node || b) (sym (set.contains-from_list nodes_total c.self.inside.nodes.items q) ∙ ap (λ s. set.contains s q) c.self.view_is)
    ∙ sym (set.contains-insert nodes_total now node q))))
