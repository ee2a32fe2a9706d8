use Rattle.dac_base.specs.laws.Ids.{nodes_total, exact_nodes}
use Rattle.dac_chains.proofs.KeptLemmas.{equal-kept}
use Rattle.dac_chains.proofs.lives.LivesLattice.equal.Goals as goal

pub returns : goal.returns
returns c =
    let same = equal-kept nodes_total exact_nodes c.self.inside.lives c.other.inside.lives c.tells_invariant.ensures.in_order c.tells_invariant-2.ensures.in_order in
    rw (← c.self.view_is, ← c.other.view_is) (λ e. same.0 (c.equal.ensures.0 e), λ is. c.equal.ensures.1 (same.1 is))
