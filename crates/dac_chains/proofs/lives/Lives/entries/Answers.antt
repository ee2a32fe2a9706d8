use Rattle.std.proofs.Common.{◌∙◌, ap}
use Rattle.std.specs.FinMap as map
use Rattle.dac_base.specs.laws.Ids.{nodes_total, exact_nodes}
use Rattle.dac_chains.proofs.KeptLemmas.{entries-kept}
use Rattle.dac_chains.proofs.lives.Lives.entries.Goals as goal

pub returns : goal.returns
returns c = rw c.entries.ensures (entries-kept nodes_total exact_nodes _ c.tells_invariant.ensures.in_order ∙ ap (λ m. map.entries m) c.self.view_is)
