use Rattle.std.proofs.Common.{◌+◌, ◌∙◌, length, ap}
use Rattle.std.specs.Arc.{arc_value}
use Rattle.dac_sorted.proofs.PartLemmas.{all_counted, none_counted, one_counted}
use Rattle.dac_sorted.proofs.parts.Parts.count.Goals as goal

pub loop-block-init : goal.loop-block-init
loop-block-init g c = none_counted arc_value c.pieces.result.0.now c.pieces.result.1.now c.args.self.now c.pieces.ensures.value

pub loop-block-preserved : goal.loop-block-preserved
loop-block-preserved g c =
    one_counted arc_value c.pieces.result.0.now c.loop-block.block-index c.loop-block.count c.in-Some.more c.block-item.result (length c.args.self.now) c.loop-block-test.true c.block-item.is c.loop-block.invariant
    (c.in-Some.ensures.1 ∙ ap (λ n. c.loop-block.count + n) (ap length (c.entries.ensures ∙ c.deref.ensures)))

pub returns : goal.returns
returns g c = all_counted arc_value c.pieces.result.0.now c.loop-block.block-index c.loop-block.count (length c.args.self.now) c.loop-block-test.false c.loop-block.invariant
