use Rattle.std.proofs.Common.{◌≡◌, cond, Some, ap, sym, ◌∙◌}
use Rattle.dac_peers.specs.laws.Common.{eq_by_cmp, node_cmp, nodes_total, exact_nodes, got_after}
use Rattle.std.specs.FinMap as map
use Rattle.std.specs.FinMap.Entries.{find, find-put}
use Rattle.dac_peers.proofs.positions.Positions.raise.Goals as goal
use Rattle.dac_peers.proofs.positions.Positions.raise.Goals.{in-Some, in-None}

pub returns-clause-ok : goal.returns-clause-ok
returns-clause-ok c =
    let now = c.args.self.now in
    let node = c.args.node in
    let position = c.args.position in
    let is : c.match-get.latest ≡ got_after (map.get now node) position = elim c.match-get.branch [
      | in-Some w ↦ w.latest-is ∙ (w.later-latest.ensures ∙ ap (λ before. got_after before position) (sym w.in-Some.is ∙ c.get.ensures))
      | in-None w ↦ w.latest-is ∙ ap (λ before. got_after before position) (sym w.in-None.is ∙ c.get.ensures)
    ] in
    map.same_map nodes_total exact_nodes _ _ (λ q.
    map.get-from_entries nodes_total c.put.new.self q
    ∙ (ap (find node_cmp q) c.in_ok-put.ensures.ok
    ∙ (find-put node_cmp nodes_total q node c.match-get.latest c.self.inside.positions
    ∙ ((λ i. cond (eq_by_cmp node_cmp q node) (Some (is i)) ((sym (map.get-from_entries nodes_total c.self.inside.positions q) ∙ ap (λ m. map.get m q) c.self.view_is) i))
    ∙ sym (map.get-insert nodes_total now node (got_after (map.get now node) position) q)))))
