use Rattle.std.proofs.Common.{map, refl}
use Rattle.dac_config.proofs.Common.{at_drop_more, at_drop_all, node_name_text}
use Rattle.dac_config.proofs.Gaining.{one_more, all_taken}
use Rattle.dac_config.proofs.config.text.put_members.Goals as goal

pub loop-number-preserved : goal.loop-number-preserved
loop-number-preserved g c =
    let left = at_drop_more (map (node_name_text c.args.config.now.nodes)) c.args.group.now c.loop-number.number-index 0 c.loop-number-test.true in
    one_more c.loop-number.invariant left c.put.ensures c.put_node.ensures refl

pub returns : goal.returns
returns g c = all_taken c.loop-number.invariant (at_drop_all (map (node_name_text c.args.config.now.nodes)) c.args.group.now c.loop-number.number-index c.loop-number-test.false)

pub put_node-requires : goal.put_node-requires
put_node-requires g c = c.requires c.loop-number.number-index 0 c.loop-number-test.true
