use Rattle.dac_dots.proofs.SpanLemmas.{no_spans}
use Rattle.dac_dots.proofs.counters.Counters.empty.Goals as goal

pub returns : goal.returns
returns c = no_spans
