use Rattle.std.proofs.Common.{subst, sym}
use Rattle.std.specs.Ordering.{nat_cmp}
use Rattle.dac_origins.specs.Keys.{IsRising}
use Rattle.dac_dots.specs.Spans.{counters_in, spans_of}
use Rattle.dac_dots.proofs.SpanLemmas.{rising_counters}
use Rattle.dac_dots.proofs.counters.Counters.copy.Goals as goal

pub returns-clause-rising : goal.returns-clause-rising
returns-clause-rising c = subst (λ spans. IsRising nat_cmp (counters_in spans)) (sym c.in_ok-spans.ensures) (rising_counters 0 (spans_of c.self.inside.spans) c.self.invariant)
