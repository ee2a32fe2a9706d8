use Rattle.std.proofs.Common.{◌∙◌, ap, sym}
use Rattle.std.specs.FinSet as set
use Rattle.dac_store.proofs.dot_set.DotSetDotStore.is_same.Goals as goal

pub returns : goal.returns
returns c e = sym c.self.view_is ∙ ap (λ ds. set.from_list ds) (c.is_same.ensures e) ∙ c.other.view_is
