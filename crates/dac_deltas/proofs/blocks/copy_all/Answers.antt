use Rattle.std.proofs.Common.{◌∙◌}
use Rattle.std.proofs.lemmas.List.{take_all}
use Rattle.std.proofs.lemmas.Result.{IfOk-from_err}
use borrow.Author.Count.{falls}
use Rattle.dac_deltas.proofs.Copying.{copied_more}
use Rattle.dac_deltas.proofs.blocks.copy_all.Goals as goal

pub loop-value-init : goal.loop-value-init
loop-value-init g c = c.new-copied.ensures.items

pub returns-in_err-copy : goal.returns-in_err-copy
returns-in_err-copy g c = IfOk-from_err c.from_residual.result _ c.from_residual.ensures.0

pub returns-in_err-push : goal.returns-in_err-push
returns-in_err-push g c = IfOk-from_err c.from_residual-in_err-push.result _ c.from_residual-in_err-push.ensures.0

pub loop-value-smaller : goal.loop-value-smaller
loop-value-smaller g c = falls _ _ c.loop-value-test.true

pub loop-value-preserved : goal.loop-value-preserved
loop-value-preserved g c =
    copied_more c.args.values.now c.loop-value.value-index c.loop-value.copied.items c.push.new.self.items c.value-item.result c.in_ok-copy.field-0
    c.loop-value-test.true c.value-item.is c.loop-value.invariant c.in_ok-copy.ensures c.in_ok-push.ensures.items

pub returns : goal.returns
returns g c = c.loop-value.invariant ∙ take_all _ _ c.loop-value-test.false
