use Rattle.std.proofs.Common.{false, set, ap, ◌∙◌, arith}
use Rattle.dac_status.proofs.Common.{MAX_NODES, drains_live}
use Rattle.dac_status.proofs.Places.{node_numbered, placed_none, placed_more}
use Rattle.dac_status.proofs.summary.drained_of.Goals as goal

pub loop-number-init : goal.loop-number-init
loop-number-init c = placed_none MAX_NODES false node_numbered (drains_live c.args.state.now)

pub loop-number-preserved : goal.loop-number-preserved
loop-number-preserved c =
    ap (λ drained. set c.loop-number.drained c.loop-number.number drained) c.drains_live.ensures
    ∙ placed_more MAX_NODES false node_numbered (drains_live c.args.state.now) c.loop-number.number c.loop-number.drained (omega arith) c.loop-number.invariant
