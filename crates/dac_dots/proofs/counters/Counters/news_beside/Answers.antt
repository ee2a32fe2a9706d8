use Rattle.std.specs.Ordering.{nat_cmp}
use Rattle.dac_origins.specs.Keys.{has_key}
use Rattle.dac_dots.proofs.NewsLemmas.{spans_all}
use Rattle.dac_dots.proofs.SpanLemmas.{apart_at}
use Rattle.dac_dots.proofs.counters.Counters.news_beside.Goals as goal

pub has_span-requires : goal.has_span-requires
has_span-requires c = (apart_at 0 c.spans-span-items.result.now c.spans-span-items.ensures.apart c.loop-span.span-index (record { first = 0; last = 0 }) c.loop-span-test.true).1

pub returns : goal.returns
returns c = spans_all c.spans-span-items.result.now c.spans-span-items.ensures.apart c.args.self.now c.spans-span-items.ensures.value c.loop-span.span-index c.loop-span-test.false (has_key nat_cmp c.args.other.now) c.loop-span.news c.loop-span.invariant
