use Rattle.std.proofs.Common.{List, ℕ, map, ap, refl, ◌∙◌}
use Rattle.dac_config.proofs.Common.{Vec, at_drop_more, at_drop_all, group_text}
use Rattle.dac_config.proofs.Gaining.{one_more, all_taken}
use Rattle.dac_config.proofs.config.text.put_groups.Goals as goal

pub put_group-requires : goal.put_group-requires
put_group-requires g c = rw (c.deref.ensures.value ∙ ap (λ (group : Vec ℕ). group.items) c.group-item.is) (c.requires c.loop-group.group-index c.group-item.result c.loop-group-test.true)

pub loop-group-preserved : goal.loop-group-preserved
loop-group-preserved g c =
    let left = at_drop_more (λ (groups : List (Vec ℕ)). map (group_text c.args.config.now.nodes) (map (λ group. group.items) groups)) c.args.groups.now c.loop-group.group-index c.group-item.result c.loop-group-test.true in
    let same = c.deref.ensures.value ∙ ap (λ (group : Vec ℕ). group.items) c.group-item.is in
    one_more c.loop-group.invariant left c.put.ensures (rw same at c.put_group.ensures) refl

pub returns : goal.returns
returns g c =
    all_taken c.loop-group.invariant (at_drop_all (λ (groups : List (Vec ℕ)). map (group_text c.args.config.now.nodes) (map (λ group. group.items) groups)) c.args.groups.now c.loop-group.group-index c.loop-group-test.false)
