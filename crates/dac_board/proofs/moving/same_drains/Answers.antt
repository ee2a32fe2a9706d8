use Rattle.std.proofs.Common.{◌≡◌, ◌∙◌, not, sym, ap}
use Rattle.std.specs.Cmp.{Equal-is}
use Rattle.dac_origins.specs.laws.Dots.{exact_origins}
use Rattle.dac_board.proofs.Walks.{none_left, one_fewer, same_first}
use Rattle.dac_board.proofs.moving.same_drains.Goals as goal

pub loop-one-init : goal.loop-one-init
loop-one-init c = λ same. same

pub loop-one-preserved : goal.loop-one-preserved
loop-one-preserved c = λ rest.
    let one = c.in-Some.one.now in
    let other = c.in-Some-next.other.now in
    let key : one.0 ≡ other.0 = exact_origins one.0 other.0 (sym c.cmp.ensures ∙ (Equal-is c.cmp.result).0 (sym c.is_eq.ensures ∙ c.if-not-is_eq.false)) in
    c.loop-one.invariant (same_first c.loop-one.before c.loop-one.after c.next.new.self c.next-in-Some.new.self one other c.in-Some.ensures c.in-Some-next.ensures (λ i. (key i, c.is_same_store.ensures c.if-not-is_same_store.false i)) rest)

pub loop-one-smaller : goal.loop-one-smaller
loop-one-smaller c = one_fewer c.loop-one.before c.next.new.self c.in-Some.one.now c.in-Some.ensures

pub returns : goal.returns
returns c = λ none. c.loop-one.invariant (c.in_default.ensures.0 ∙ sym (none_left c.loop-one.after c.first.result c.first.ensures (c.is_none.ensures ∙ ap not none)))
