use Rattle.std.proofs.Common.{◌∙◌, ap}
use Rattle.dac_dots.specs.Entries.{dots_of}
use Rattle.dac_dots.proofs.SetLemmas.{no_dots}
use Rattle.dac_dots.proofs.context.Context.empty.Goals as goal

pub returns : goal.returns
returns c = ap dots_of c.empty.ensures ∙ no_dots
