use Rattle.dac_weave.proofs.Placed.{still-more}
use Rattle.dac_weave.proofs.merge.Merge.find_between.Goals as goal

pub loop-i-preserved : goal.loop-i-preserved
loop-i-preserved c = still-more c.args.journals.now c.args.self.now c.args.low c.loop-i.i c.loop-i.invariant c.in-None.ensures
