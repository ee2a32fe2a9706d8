use Rattle.std.proofs.Common.{◌∙◌, sym, arith}
use Rattle.dac_origins.specs.laws.Dots.{dots_total}
use Rattle.dac_operations.proofs.Rising.{rising_more, not_rising, rising_last}
use Rattle.dac_operations.proofs.op.ascends.Goals as goal

pub loop-i-preserved : goal.loop-i-preserved
loop-i-preserved c = c.loop-i.invariant ∙ rising_more dots_total c.args.dots.now _ c.loop-i.i _ _ (omega arith) (omega arith) c.loop-i-test.true (sym c.is_before.ensures ∙ c.if-not-is_before.false)

pub returns-then-not-is_before : goal.returns-then-not-is_before
returns-then-not-is_before c = sym (c.loop-i.invariant ∙ not_rising dots_total c.args.dots.now _ c.loop-i.i _ (omega arith) c.loop-i-test.true (sym c.is_before.ensures ∙ c.if-not-is_before.true))

pub returns : goal.returns
returns c = sym (c.loop-i.invariant ∙ rising_last dots_total c.args.dots.now _ (omega arith))
