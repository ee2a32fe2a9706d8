use Rattle.std.proofs.Common.{◌∙◌}
use Rattle.dac_origins.specs.laws.Dots.{dots_total, exact_dots}
use Rattle.dac_origins.specs.laws.InOrder.{in_order-one}
use Rattle.dac_store.specs.Few.{dots_of}
use Rattle.dac_store.proofs.dot_set.DotSet.dots.Goals as goal

pub returns : goal.returns
returns c = c.as_slice.ensures ∙ in_order-one dots_total exact_dots c.args.self.now (dots_of c.self.inside.few) c.self.invariant c.self.view_is
