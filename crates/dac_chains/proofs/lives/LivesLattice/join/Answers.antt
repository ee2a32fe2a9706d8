use Rattle.std.proofs.Common.{ap, ◌∙◌}
use Rattle.dac_base.specs.Ids.{node_cmp}
use Rattle.dac_base.specs.laws.Ids.{nodes_total, exact_nodes}
use Rattle.dac_chains.specs.Greatest.{greater}
use Rattle.dac_chains.specs.Kept.{kept}
use Rattle.dac_chains.specs.Lives.{life_cmp}
use Rattle.dac_chains.proofs.KeptLemmas.{kept-join}
use Rattle.dac_chains.proofs.Orders.{order_of_lives}
use Rattle.dac_chains.proofs.lives.LivesLattice.join.Goals as goal

pub returns : goal.returns
returns c =
    ap (λ es. kept {R = node_cmp} es) c.in_ok-lives.ensures
    ∙ kept-join nodes_total exact_nodes _ _ order_of_lives c.self.inside.lives c.other.inside.lives c.tells_invariant.ensures.in_order c.tells_invariant-2.ensures.in_order
    ∙ (λ i. greater life_cmp (c.self.view_is i) (c.other.view_is i))
