use Rattle.std.proofs.Common.{◌∙◌, ◌<◌, ap, length, subst, sym}
use Rattle.std.specs.Arc.{arc_value}
use Rattle.dac_sorted.proofs.PartLemmas.{all_shared, one_filled, one_shared}
use Rattle.dac_sorted.proofs.parts.share_blocks.Goals as goal

pub loop-block-preserved : goal.loop-block-preserved
loop-block-preserved g c = (
  one_filled arc_value c.loop-block.shared.items c.push.new.self.items c.in_ok-try_clone.field-0 c.loop-block.invariant.0 c.in_ok-push.ensures.items
      (subst (λ es. 0 < length es) (sym (c.in_ok-try_clone.ensures ∙ ap arc_value c.block-item.is)) (c.requires c.loop-block.block-index c.block-item.result c.loop-block-test.true)),
  one_shared arc_value c.args.blocks.now c.loop-block.shared.items c.push.new.self.items c.loop-block.block-index c.block-item.result c.in_ok-try_clone.field-0
      c.loop-block-test.true c.block-item.is c.loop-block.invariant.1 c.in_ok-try_clone.ensures c.in_ok-push.ensures.items,
)

pub returns-clause-same : goal.returns-clause-same
returns-clause-same g c = all_shared arc_value c.args.blocks.now c.loop-block.shared.items c.loop-block.block-index c.loop-block-test.false c.loop-block.invariant.1
