use Rattle.std.proofs.Common.{◌≡◌, ◌++◌, ◌∙◌, ap, append_assoc, arith}
use Rattle.dac_status.proofs.Common.{codes, group_in, group_text, labels_of, MAX_NODES}
use Rattle.dac_status.proofs.Lines.{put_more, texts}
use Rattle.dac_status.proofs.Groups.{list_is}
use Rattle.dac_status.proofs.apps.put_list.Goals as goal

pub loop-group-preserved : goal.loop-group-preserved
loop-group-preserved c =
    c.in_ok-put_group.ensures
    ∙ put_more (λ n. n) (group_in c.args.config.now c.args.labels.now c.groups_of-groups.result c.args.marks.now) c.loop-group.group (c.args.text.now.items ++ codes "list") c.loop-group.text.items c.loop-group.invariant

pub returns : goal.returns
returns c =
    let t = c.args.config.now in
    let start = c.args.text.now.items ++ codes "list" in
    let groups = c.groups_of-groups.result in
    let end : c.loop-group.group ≡ c.group_count-group-end.result = omega arith in
    let all = list_is t c.args.app c.args.marks.now groups c.group_count-group-end.result c.groups_of-groups.ensures c.group_count-group-end.ensures.few c.group_count-group-end.ensures.has in
    let nodes = texts (λ n. n) (group_text t c.args.app c.args.marks.now) MAX_NODES in
    c.in_ok-push.ensures.items
    ∙ ap (λ l. l ++ codes "\n") (c.loop-group.invariant ∙ ap (λ ls. start ++ texts (λ n. n) (group_in t ls groups c.args.marks.now) c.loop-group.group) c.requires.labels ∙ ap (λ n. start ++ texts (λ n. n) (group_in t (labels_of t) groups c.args.marks.now) n) end ∙ ap (λ l. start ++ l) all)
    ∙ append_assoc start nodes (codes "\n")
    ∙ append_assoc c.args.text.now.items (codes "list") (nodes ++ codes "\n")
