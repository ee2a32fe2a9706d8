use Rattle.std.proofs.Common.{ap, map, ◌∙◌}
use Rattle.dac_config.proofs.Common.{at_drop_more, at_drop_all, names_of, draft_of, numbered_node, node_row}
use Rattle.dac_config.proofs.Tables.{one_pushed, all_pushed}
use Rattle.dac_config.proofs.config.number.nodes_of.Goals as goal

pub loop-name-preserved : goal.loop-name-preserved
loop-name-preserved c =
    one_pushed node_row _ _ _ _ _ _ _ c.in_ok-push.ensures.items c.in_ok-node_of.ensures (at_drop_more (λ names. map (numbered_node (draft_of c.args.draft.now)) (names_of names)) c.deref-name-items.result.now c.loop-name.name-index _ c.loop-name-test.true) c.loop-name.invariant

pub returns : goal.returns
returns c =
    all_pushed _ _ _ (at_drop_all (λ names. map (numbered_node (draft_of c.args.draft.now)) (names_of names)) c.deref-name-items.result.now c.loop-name.name-index c.loop-name-test.false) c.loop-name.invariant
    ∙ ap (λ names. map (numbered_node (draft_of c.args.draft.now)) (names_of names)) c.deref-name-items.ensures.value
