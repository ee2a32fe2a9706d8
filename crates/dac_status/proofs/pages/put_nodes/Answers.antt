use Rattle.std.proofs.Common.{◌∙◌}
use Rattle.dac_status.proofs.Common.{node_line}
use Rattle.dac_status.proofs.Places.{node_numbered}
use Rattle.dac_status.proofs.Lines.{put_more}
use Rattle.dac_status.proofs.pages.put_nodes.Goals as goal

pub loop-number-preserved : goal.loop-number-preserved
loop-number-preserved c =
    c.in_ok-put_node_line.ensures
    ∙ put_more node_numbered (node_line c.args.config.now c.args.summary.now.lives c.args.summary.now.drained) c.loop-number.number c.args.text.now.items c.loop-number.text.items c.loop-number.invariant
