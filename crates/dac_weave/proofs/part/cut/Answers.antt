use Rattle.dac_weave.proofs.Cutting.{cut_more}
use Rattle.dac_weave.proofs.part.cut.Goals as goal

pub loop-i-preserved : goal.loop-i-preserved
loop-i-preserved c =
    cut_more c.args.journals.now c.args.row.now c.loop-i.i c.index-journals-i.result c.loop-i.parts.items c.push.new.self.items c.new.result c.requires c.loop-i-test.true c.index-journals-i.is c.new.ensures c.loop-i.invariant c.in_ok-push.ensures.items
