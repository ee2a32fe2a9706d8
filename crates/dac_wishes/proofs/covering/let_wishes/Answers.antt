use Rattle.std.proofs.Common.{◌∙◌, ap, sym}
use Rattle.std.specs.List.{list_all}
use Rattle.dac_origins.specs.Dots.{Dots}
use Rattle.dac_origins.specs.InOrder.{in_order}
use Rattle.dac_wishes.specs.declared.key.Key.{Key}
use Rattle.dac_wishes.specs.Covering.{let_wishes, lets_wish}
use Rattle.dac_wishes.proofs.Walks.{all_done, all_next, all_not, one_fewer}
use Rattle.dac_wishes.proofs.covering.let_wishes.Goals as goal

pub loop-key-preserved : goal.loop-key-preserved
loop-key-preserved c =
    let wish = lets_wish c.args.dot c.args.start c.args.over.now in
    let e = c.in-Some.field-0.now in
    all_next (λ (e : Key × Dots). list_all (wish e.0) (in_order e.1)) (let_wishes c.args.dot c.args.start c.args.over.now c.args.entries) c.loop-key.left c.next.new.self e c.in-Some.ensures c.loop-key.invariant
    (ap (list_all (wish e.0)) (sym c.dots.ensures) ∙ sym c.let_wishes_at.ensures ∙ c.if-not-let_wishes_at.false)

pub loop-key-smaller : goal.loop-key-smaller
loop-key-smaller c = one_fewer c.loop-key.left c.next.new.self c.in-Some.field-0.now c.in-Some.ensures

pub returns-then-not-let_wishes_at : goal.returns-then-not-let_wishes_at
returns-then-not-let_wishes_at c =
    let wish = lets_wish c.args.dot c.args.start c.args.over.now in
    let e = c.in-Some.field-0.now in
    sym (all_not (λ (e : Key × Dots). list_all (wish e.0) (in_order e.1)) (let_wishes c.args.dot c.args.start c.args.over.now c.args.entries) c.loop-key.left c.next.new.self e c.in-Some.ensures c.loop-key.invariant
    (ap (list_all (wish e.0)) (sym c.dots.ensures) ∙ sym c.let_wishes_at.ensures ∙ c.if-not-let_wishes_at.true))

pub returns : goal.returns
returns c =
    let wish = lets_wish c.args.dot c.args.start c.args.over.now in
    sym (all_done (λ (e : Key × Dots). list_all (wish e.0) (in_order e.1)) (let_wishes c.args.dot c.args.start c.args.over.now c.args.entries) c.loop-key.left c.in_default.ensures.0 c.loop-key.invariant)
