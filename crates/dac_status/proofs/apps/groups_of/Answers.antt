use Rattle.std.proofs.Common.{None, set, ap, ◌∙◌, arith}
use Rattle.dac_status.proofs.Common.{MAX_NODES, group_of}
use Rattle.dac_status.proofs.Places.{node_numbered, placed_none, placed_more}
use Rattle.dac_status.proofs.apps.groups_of.Goals as goal

pub loop-number-init : goal.loop-number-init
loop-number-init c = placed_none MAX_NODES None node_numbered (group_of c.args.config.now c.args.app)

pub loop-number-preserved : goal.loop-number-preserved
loop-number-preserved c =
    ap (λ group. set c.loop-number.groups c.loop-number.number group) c.group_of.ensures
    ∙ placed_more MAX_NODES None node_numbered (group_of c.args.config.now c.args.app) c.loop-number.number c.loop-number.groups (omega arith) c.loop-number.invariant
