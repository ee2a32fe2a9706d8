use Rattle.std.proofs.Common.{◌∙◌}
use Rattle.dac_dots.proofs.AlongLemmas.{along_in}
use Rattle.dac_dots.proofs.counters.Counters.iter.Goals as goal

pub returns : goal.returns
returns c = c.of.ensures ∙ along_in 0 c.spans.result.now c.spans.ensures.apart ∙ c.spans.ensures.value
