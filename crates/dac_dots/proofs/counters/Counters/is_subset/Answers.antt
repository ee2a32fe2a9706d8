use Rattle.std.proofs.Common.{◌∙◌, sym, refl}
use Rattle.std.proofs.lemmas.Bool.{false≢true}
use Rattle.dac_dots.proofs.SpanLemmas.{subset_whole, span_within}
use Rattle.dac_dots.proofs.counters.Counters.is_subset.Goals as goal

pub returns-then-not-has_span : goal.returns-then-not-has_span
returns-then-not-has_span c = (
  λ e. absurd (false≢true e),
  λ all. absurd (false≢true (sym c.if-not-has_span.true ∙ c.has_span.ensures.1 (λ n e. all n (span_within c.spans-span-items.result.now c.args.self.now (c.spans-span-items.ensures.value) c.loop-span.span-index (record { first = 0; last = 0 }) c.loop-span-test.true n e)))),
)

pub returns : goal.returns
returns c = (λ _. subset_whole c.spans-span-items.result.now c.args.self.now c.spans-span-items.ensures.value c.args.other.now c.loop-span.span-index (c.loop-span-test.false) (c.loop-span.invariant), λ _. refl)
