use Rattle.std.proofs.Common.{◌∙◌, sym}
use Rattle.dac_origins.specs.laws.Dots.{dots_total, exact_dots}
use Rattle.dac_origins.specs.laws.InOrder.{in_order-same}
use Rattle.dac_store.proofs.Passing.{loses_one, loses_none, loses_all}
use Rattle.dac_store.proofs.dot_set.DotSet.remove_replaced.Goals as goal
use Rattle.dac_store.proofs.dot_set.DotSet.remove_replaced.Goals.{then-not-has, else-not-has}

pub loop-dot-preserved : goal.loop-dot-preserved
loop-dot-preserved c =
    let items = c.deref-dot-items.result.now in
    elim c.if-not-has.branch [
      | then-not-has w ↦ rw (w.self-is, w.remove.ensures) (loses_one c.args.beside.now items c.args.self.now c.loop-dot.self _ _ c.loop-dot-test.true c.loop-dot.invariant (sym c.has.ensures ∙ w.if-not-has.true))
      | else-not-has w ↦ rw w.self-is (loses_none c.args.beside.now items c.args.self.now c.loop-dot.self _ _ c.loop-dot-test.true c.loop-dot.invariant (sym c.has.ensures ∙ w.if-not-has.false))
    ]

pub returns : goal.returns
returns c = loses_all c.args.beside.now c.deref-dot-items.result.now c.args.self.now c.loop-dot.self c.args.heard.now (rw (c.deref-dot-items.ensures.value, c.in_ok-known.ensures.value) (in_order-same dots_total exact_dots c.args.heard.now)) _ c.loop-dot-test.false c.loop-dot.invariant
