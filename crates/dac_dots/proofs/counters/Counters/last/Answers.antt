use Rattle.dac_dots.proofs.SpanLemmas.{last_found, last_none}
use Rattle.dac_dots.proofs.counters.Counters.last.Goals as goal

pub returns-in-Some : goal.returns-in-Some
returns-in-Some c =
    let item = c.in-Some.ensures.item in
    last_found c.spans.result.now c.spans.ensures.apart c.args.self.now c.spans.ensures.value c.in-Some.span.now item.3.0 (item.3.1 c.in-Some.span.now)

pub returns-in-None : goal.returns-in-None
returns-in-None c = last_none c.spans.result.now c.args.self.now c.spans.ensures.value (c.in-None.ensures.item.3)
