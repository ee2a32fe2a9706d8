use Rattle.std.proofs.Common.{◌≡◌, true, get_or, take}
use Rattle.std.proofs.lemmas.List.Elements.{All-more}
use Rattle.dac_origins.specs.laws.Dots.{dots_total, exact_dots}
use Rattle.dac_origins.specs.laws.InOrder.{in_order-same}
use Rattle.dac_origins.specs.laws.KeyLaws.{each_member}
use Rattle.dac_dots.specs.DotFilters.{may_have}
use Rattle.dac_store.proofs.dot_set.DotSetDotStore.fill.Goals as goal

pub loop-dot-preserved : goal.loop-dot-preserved
loop-dot-preserved c = record {
  own = All-more (λ x. may_have c.put.new.self.slots x ≡ true) _ _ _ c.loop-dot-test.true (λ k d p. c.put.ensures.more (get_or (take c.loop-dot.dot-index c.dots-dot-items.result.now) k d) (c.loop-dot.invariant.own k d p)) c.put.ensures.own;
  more = λ x e. c.put.ensures.more x (c.loop-dot.invariant.more x e);
}

pub returns-clause-own : goal.returns-clause-own
returns-clause-own c =
    each_member dots_total exact_dots c.dots-dot-items.result.now c.args.self.now (rw c.dots-dot-items.ensures (in_order-same dots_total exact_dots c.args.self.now)) (λ x. may_have c.loop-dot.filter.slots x ≡ true) _ c.loop-dot-test.false c.loop-dot.invariant.own

pub returns-clause-more : goal.returns-clause-more
returns-clause-more c = c.loop-dot.invariant.more
