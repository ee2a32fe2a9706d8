use Rattle.dac_base.specs.laws.Ids.{apps_total, exact_apps}
use Rattle.dac_chains.proofs.KeptLemmas.{below-kept}
use Rattle.dac_chains.proofs.Orders.{order_of_claims}
use Rattle.dac_chains.proofs.claims.ClaimsLattice.leq.Goals as goal

pub returns : goal.returns
returns c =
    let same = below-kept apps_total exact_apps _ _ order_of_claims c.self.inside.claims c.other.inside.claims in
    rw (← c.self.view_is, ← c.other.view_is) (λ e. same.0 (c.leq.ensures.0 e), λ below. c.leq.ensures.1 (same.1 below))
