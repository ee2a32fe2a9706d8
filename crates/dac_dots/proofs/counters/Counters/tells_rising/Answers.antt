use Rattle.std.proofs.Common.{subst}
use Rattle.std.specs.Ordering.{nat_cmp}
use Rattle.dac_origins.specs.Keys.{IsRising}
use Rattle.dac_dots.specs.Spans.{spans_of}
use Rattle.dac_dots.proofs.SpanLemmas.{rising_counters}
use Rattle.dac_dots.proofs.counters.Counters.tells_rising.Goals as goal

pub returns : goal.returns
returns c = subst (IsRising nat_cmp) c.self.view_is (rising_counters 0 (spans_of c.self.inside.spans) c.self.invariant)
