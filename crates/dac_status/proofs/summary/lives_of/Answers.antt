use Rattle.std.proofs.Common.{None, set, ap, ◌∙◌, arith}
use Rattle.dac_status.proofs.Common.{MAX_NODES}
use Rattle.std.specs.FinMap as finmap
use Rattle.dac_status.proofs.Places.{node_numbered, placed_none, placed_more}
use Rattle.dac_status.proofs.summary.lives_of.Goals as goal

pub loop-number-init : goal.loop-number-init
loop-number-init c = placed_none MAX_NODES None node_numbered (finmap.get c.args.state.now.lives)

pub loop-number-preserved : goal.loop-number-preserved
loop-number-preserved c =
    ap (λ life. set c.loop-number.lives c.loop-number.number life) (rw c.lives.ensures at c.greatest_life.ensures)
    ∙ placed_more MAX_NODES None node_numbered (finmap.get c.args.state.now.lives) c.loop-number.number c.loop-number.lives (omega arith) c.loop-number.invariant
