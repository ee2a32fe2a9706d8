use Rattle.std.proofs.Common.{◌∙◌, ap}
use Rattle.std.specs.FinMap as map
use Rattle.dac_base.specs.laws.Ids.{apps_total, exact_apps}
use Rattle.dac_chains.proofs.KeptLemmas.{entries-kept}
use Rattle.dac_chains.proofs.claims.Claims.entries.Goals as goal

pub returns : goal.returns
returns c = rw c.entries.ensures (entries-kept apps_total exact_apps _ c.tells_invariant.ensures.in_order ∙ ap (λ m. map.entries m) c.self.view_is)
