use Rattle.dac_dots.proofs.FilterLemmas.{in_spans}
use Rattle.dac_dots.proofs.counters.Counters.is_within_both.Goals as goal

pub returns : goal.returns
returns c = λ _ n e. c.loop-span.invariant n (in_spans c.spans-span-items.result.now c.args.self.now c.spans-span-items.ensures.value c.loop-span.span-index c.loop-span-test.false n e)
