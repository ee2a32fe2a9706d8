use Rattle.dac_dots.proofs.SpanLemmas.{one_counter}
use Rattle.dac_dots.proofs.counters.Counters.one.Goals as goal

pub returns : goal.returns
returns c = one_counter c.args.n
