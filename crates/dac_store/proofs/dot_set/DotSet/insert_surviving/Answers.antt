use Rattle.std.proofs.Common.{◌∙◌, sym}
use Rattle.dac_origins.specs.laws.Dots.{dots_total, exact_dots}
use Rattle.dac_origins.specs.laws.InOrder.{in_order-same}
use Rattle.dac_store.specs.DotSets.{may_stay}
use Rattle.dac_store.proofs.Passing.{adds_kept, adds_dropped, adds_all}
use Rattle.dac_store.proofs.dot_set.DotSet.insert_surviving.Goals as goal
use Rattle.dac_store.proofs.dot_set.DotSet.insert_surviving.Goals.{then-lets_stay+in_ok-insert, else-lets_stay}

pub loop-dot-preserved : goal.loop-dot-preserved
loop-dot-preserved c =
    let may = may_stay c.args.beside.now c.args.heard.now in
    let items = c.dots-dot-items.result.now in
    elim c.if-lets_stay.branch [
      | then-lets_stay+in_ok-insert w ↦ rw (w.self-is, w.in_ok-insert.ensures.ok) (adds_kept may items c.args.self.now c.loop-dot.self _ _ c.loop-dot-test.true c.loop-dot.invariant (sym c.lets_stay.ensures ∙ w.if-lets_stay.true))
      | else-lets_stay w ↦ rw w.self-is (adds_dropped may items c.args.self.now c.loop-dot.self _ _ c.loop-dot-test.true c.loop-dot.invariant (sym c.lets_stay.ensures ∙ w.if-lets_stay.false))
    ]

pub returns : goal.returns
returns c = adds_all (may_stay c.args.beside.now c.args.heard.now) c.dots-dot-items.result.now c.args.self.now c.loop-dot.self c.args.from.now (rw c.dots-dot-items.ensures (in_order-same dots_total exact_dots c.args.from.now)) _ c.loop-dot-test.false c.loop-dot.invariant
