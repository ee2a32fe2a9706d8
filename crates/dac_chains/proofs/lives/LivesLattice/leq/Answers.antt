use Rattle.dac_base.specs.laws.Ids.{nodes_total, exact_nodes}
use Rattle.dac_chains.proofs.KeptLemmas.{below-kept}
use Rattle.dac_chains.proofs.Orders.{order_of_lives}
use Rattle.dac_chains.proofs.lives.LivesLattice.leq.Goals as goal

pub returns : goal.returns
returns c =
    let same = below-kept nodes_total exact_nodes _ _ order_of_lives c.self.inside.lives c.other.inside.lives in
    rw (← c.self.view_is, ← c.other.view_is) (λ e. same.0 (c.leq.ensures.0 e), λ below. c.leq.ensures.1 (same.1 below))
