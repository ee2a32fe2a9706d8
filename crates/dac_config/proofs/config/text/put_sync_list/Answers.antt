use Rattle.std.proofs.Common.{◌≡◌, ℕ, ◌+◌, ◌∷◌, true, false, List, map, filter, drop, refl}
use Rattle.dac_config.proofs.Common.{at_drop_all, NodeRow, name_text, node_row, is_in}
use Rattle.dac_config.specs.declared.config.text.SyncList.{SyncList}
use Rattle.dac_config.proofs.Tables.{left_at}
use Rattle.dac_config.proofs.Gaining.{one_more, same_left, all_taken}
use Rattle.dac_config.proofs.config.text.put_sync_list.Goals as goal

abbrev texts : SyncList → List NodeRow → List (List ℕ)
texts list rows = map (λ row. name_text row.name) (filter (is_in list) rows)

pub node-node-requires : goal.node-node-requires
node-node-requires g c = rw c.nodes-at-end.ensures.count at c.loop-at-test.true

pub loop-at-preserved-then-not-is_in : goal.loop-at-preserved-then-not-is_in
loop-at-preserved-then-not-is_in g c =
    let nodes = c.args.config.now.nodes in let at = c.loop-at.at in
    let fails : is_in c.args.list (node_row c.node-node.result.now) ≡ false = rw c.is_in.ensures at c.if-not-is_in.true in
    let left : texts c.args.list (drop at nodes) ≡ texts c.args.list (drop (at + 1) nodes) = rw (left_at nodes at _ c.node-node.ensures, fails) refl in
    same_left c.loop-at.invariant left

pub loop-at-preserved : goal.loop-at-preserved
loop-at-preserved g c =
    let nodes = c.args.config.now.nodes in let at = c.loop-at.at in let node = c.node-node.result.now in
    let passes : is_in c.args.list (node_row node) ≡ true = rw c.is_in.ensures at c.if-not-is_in.false in
    let left : texts c.args.list (drop at nodes) ≡ name_text node.name.items ∷ texts c.args.list (drop (at + 1) nodes) = rw (left_at nodes at _ c.node-node.ensures, passes) refl in
    one_more c.loop-at.invariant left c.put.ensures (rw c.deref.ensures.value at c.put_name.ensures) refl

pub returns : goal.returns
returns g c = all_taken c.loop-at.invariant (at_drop_all (texts c.args.list) c.args.config.now.nodes c.loop-at.at (rw c.nodes-at-end.ensures.count at c.loop-at-test.false))
