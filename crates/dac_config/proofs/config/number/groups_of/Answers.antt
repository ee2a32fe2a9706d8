use Rattle.std.proofs.Common.{ℕ, List, Bor, map, ap, ◌∙◌}
use Rattle.dac_config.proofs.Common.{Vec, at_drop_more, at_drop_all, names_of, groups_of, numbers_from, node_row}
use Rattle.dac_config.proofs.Tables.{one_pushed, all_pushed}
use Rattle.dac_config.proofs.config.number.groups_of.Goals as goal

pub loop-group-preserved : goal.loop-group-preserved
loop-group-preserved c =
    let texts : List (Vec (Bor (List ℕ))) → List (List ℕ) = λ groups. map (numbers_from 0 (map node_row c.args.nodes.now)) (groups_of groups) in
    let same = c.in_ok-numbers_of.ensures ∙ ap (λ names. numbers_from 0 (map node_row c.args.nodes.now) (names_of names)) (c.deref.ensures.value ∙ ap (λ (group : Vec (Bor (List ℕ))). group.items) c.group-item.is) in
    one_pushed (λ (group : Vec ℕ). group.items) _ _ _ _ _ _ _ c.in_ok-push.ensures.items same (at_drop_more texts c.args.groups.now c.loop-group.group-index c.group-item.result c.loop-group-test.true) c.loop-group.invariant

pub returns : goal.returns
returns c =
    all_pushed _ _ _ (at_drop_all (λ groups. map (numbers_from 0 (map node_row c.args.nodes.now)) (groups_of groups)) c.args.groups.now c.loop-group.group-index c.loop-group-test.false) c.loop-group.invariant
