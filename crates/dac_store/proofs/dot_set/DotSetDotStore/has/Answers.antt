use Rattle.std.proofs.Common.{◌∙◌}
use Rattle.dac_origins.specs.laws.Dots.{dots_total}
use Rattle.dac_origins.specs.laws.KeyLaws.{has_is}
use Rattle.dac_store.specs.Few.{dots_of}
use Rattle.dac_store.proofs.dot_set.DotSetDotStore.has.Goals as goal

pub returns : goal.returns
returns c = rw c.as_slice.ensures at c.holds_key.ensures ∙ has_is dots_total (dots_of c.self.inside.few) c.args.self.now c.self.view_is c.args.dot
