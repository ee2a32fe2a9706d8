-- Laws of the definitions in `Ids`.
use Rattle.std.specs.Prelude.{ℕ}
use Rattle.std.proofs.Common.{ap}
use Rattle.std.specs.Cmp.{IsTotalOrder}
use Rattle.std.proofs.lemmas.Cmp.{nat_cmp_total, on_total}
use Rattle.std.proofs.lemmas.Map.Lookups.{CmpEqualImpliesEq, exact_unsigned}
use Rattle.dac_base.specs.declared.NodeId.{NodeId}
use Rattle.dac_base.specs.declared.AppId.{AppId}
use Rattle.dac_base.specs.Ids.{app_cmp, node_cmp}

pub exact_nodes : CmpEqualImpliesEq node_cmp
exact_nodes a b h = ap (λ (n : ℕ). record { 0 = n }) (exact_unsigned a.0 b.0 h)

pub exact_apps : CmpEqualImpliesEq app_cmp
exact_apps a b h = ap (λ (n : ℕ). record { 0 = n }) (exact_unsigned a.0 b.0 h)

pub nodes_total : IsTotalOrder node_cmp
nodes_total = on_total (λ (s : NodeId). s.0) nat_cmp_total

pub apps_total : IsTotalOrder app_cmp
apps_total = on_total (λ (s : AppId). s.0) nat_cmp_total
