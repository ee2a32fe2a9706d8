-- Laws of the definitions in `Dots`.
use Rattle.std.specs.Prelude.{ℕ}
use Rattle.std.proofs.Common.{ap}
use Rattle.std.specs.Ordering.{nat_cmp}
use Rattle.std.specs.Cmp.{IsTotalOrder}
use Rattle.std.proofs.lemmas.Cmp.{nat_cmp_total, on_total, then_total}
use Rattle.std.proofs.lemmas.Map.Lookups.{CmpEqualImpliesEq, exact_pairs, exact_unsigned}
use Rattle.dac_base.specs.Ids.{node_cmp}
use Rattle.dac_base.specs.laws.Ids.{nodes_total, exact_nodes}
use Rattle.dac_base.specs.declared.NodeId.{NodeId}
use Rattle.dac_origins.specs.declared.dot.Origin.{Origin}
use Rattle.dac_origins.specs.declared.dot.Dot.{Dot}
use Rattle.dac_origins.specs.Dots.{dot_cmp, origin_cmp}

pub exact_origins : CmpEqualImpliesEq origin_cmp
exact_origins a b h = ap (λ (p : NodeId × ℕ). record { node = p.0; inc = p.1 }) (exact_pairs node_cmp nat_cmp exact_nodes exact_unsigned (a.node, a.inc) (b.node, b.inc) h)

pub exact_dots : CmpEqualImpliesEq dot_cmp
exact_dots a b h = ap (λ (p : Origin × ℕ). record { origin = p.0; n = p.1 }) (exact_pairs origin_cmp nat_cmp exact_origins exact_unsigned (a.origin, a.n) (b.origin, b.n) h)

pub origins_total : IsTotalOrder origin_cmp
origins_total = then_total (on_total (λ (s : Origin). s.node) nodes_total) (on_total (λ (s : Origin). s.inc) nat_cmp_total)

pub dots_total : IsTotalOrder dot_cmp
dots_total = then_total (on_total (λ (s : Dot). s.origin) origins_total) (on_total (λ (s : Dot). s.n) nat_cmp_total)
