use Rattle.std.proofs.Common.{ap, ◌∙◌}
use Rattle.dac_base.specs.Ids.{app_cmp}
use Rattle.dac_base.specs.laws.Ids.{apps_total, exact_apps}
use Rattle.dac_chains.specs.Greatest.{greater}
use Rattle.dac_chains.specs.Kept.{kept}
use Rattle.dac_chains.specs.Claims.{claim_cmp}
use Rattle.dac_chains.proofs.KeptLemmas.{kept-join}
use Rattle.dac_chains.proofs.Orders.{order_of_claims}
use Rattle.dac_chains.proofs.claims.ClaimsLattice.join.Goals as goal

pub returns : goal.returns
returns c =
    ap (λ es. kept {R = app_cmp} es) c.in_ok-claims.ensures
    ∙ kept-join apps_total exact_apps _ _ order_of_claims c.self.inside.claims c.other.inside.claims c.tells_invariant.ensures.in_order c.tells_invariant-2.ensures.in_order
    ∙ (λ i. greater claim_cmp (c.self.view_is i) (c.other.view_is i))
