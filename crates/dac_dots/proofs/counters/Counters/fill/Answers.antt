use Rattle.std.proofs.Common.{◌≡◌, true}
use Rattle.dac_origins.specs.Dots.{dot}
use Rattle.dac_dots.specs.DotFilters.{may_have}
use Rattle.dac_dots.specs.Spans.{span_has}
use Rattle.dac_dots.proofs.FilterLemmas.{one_further, in_spans}
use Rattle.dac_dots.proofs.counters.Counters.fill.Goals as goal

pub loop-span-preserved : goal.loop-span-preserved
loop-span-preserved c = record {
  own = λ n. one_further (span_has n) c.spans-span-items.result.now c.loop-span.span-index (record { first = 0; last = 0 }) (may_have c.fill_span.new.filter.slots (dot c.args.origin n) ≡ true) c.loop-span-test.true
      (λ e. c.fill_span.ensures.more (dot c.args.origin n) (c.loop-span.invariant.own n e)) (c.fill_span.ensures.own n);
  more = λ q e. c.fill_span.ensures.more q (c.loop-span.invariant.more q e);
}

pub returns-clause-own : goal.returns-clause-own
returns-clause-own c n e =
    c.loop-span.invariant.own n (in_spans c.spans-span-items.result.now c.args.self.now (c.spans-span-items.ensures.value) c.loop-span.span-index c.loop-span-test.false n e)
