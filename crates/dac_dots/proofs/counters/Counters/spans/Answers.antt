use Rattle.dac_dots.specs.Spans.{spans_of}
use Rattle.dac_dots.proofs.SpanLemmas.{valid_spans}
use Rattle.dac_dots.proofs.counters.Counters.spans.Goals as goal

pub returns-clause-valid : goal.returns-clause-valid
returns-clause-valid c = rw c.as_slice.ensures (valid_spans 0 (spans_of c.self.inside.spans) c.self.invariant)
