use Rattle.dac_base.specs.laws.Ids.{apps_total, exact_apps}
use Rattle.dac_chains.proofs.KeptLemmas.{equal-kept}
use Rattle.dac_chains.proofs.claims.ClaimsLattice.equal.Goals as goal

pub returns : goal.returns
returns c =
    let same = equal-kept apps_total exact_apps c.self.inside.claims c.other.inside.claims c.tells_invariant.ensures.in_order c.tells_invariant-2.ensures.in_order in
    rw (← c.self.view_is, ← c.other.view_is) (λ e. same.0 (c.equal.ensures.0 e), λ is. c.equal.ensures.1 (same.1 is))
