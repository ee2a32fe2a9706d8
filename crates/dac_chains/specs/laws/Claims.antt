-- Laws of the definitions in `Claims`.
use Rattle.std.specs.Prelude.{ℕ, Option, None, Some, refl}
use Rattle.std.proofs.Common.{ap}
use Rattle.std.specs.declared.cmp.Ordering.{Ordering}
use Rattle.std.specs.Ordering.{nat_cmp, ordering_then}
use Rattle.std.specs.Option.{option_cmp}
use Rattle.std.specs.Cmp.{IsTotalOrder}
use Rattle.std.specs.Cmp.Lexicographic.{options_total}
use Rattle.std.proofs.lemmas.Cmp.{nat_cmp_total, on_total, then_total}
use Rattle.std.proofs.lemmas.Map.Lookups.{CmpEqualImpliesEq, exact_pairs, exact_unsigned}
use Rattle.dac_base.specs.declared.NodeId.{NodeId}
use Rattle.dac_base.specs.Ids.{node_cmp}
use Rattle.dac_base.specs.laws.Ids.{nodes_total, exact_nodes}
use Rattle.dac_lattice.specs.Origin.{Origin}
use Rattle.dac_lattice.specs.Dots.{origin_cmp}
use Rattle.dac_lattice.specs.laws.Dots.{origins_total, exact_origins}
use Rattle.dac_chains.specs.declared.claims.How.{How}
use Rattle.dac_chains.specs.declared.claims.How.TheVariants.{Normal, Failover, Takeover}
use Rattle.dac_chains.specs.declared.claims.Claim.{Claim}
use Rattle.dac_chains.specs.Claims.{claim_cmp, how_cmp, manner_cmp, rank}

-- ---- laws

pub hows_total : IsTotalOrder how_cmp
hows_total = on_total rank nat_cmp_total

pub claims_total : IsTotalOrder claim_cmp
claims_total =
    then_total (on_total (λ (c : Claim). c.term) nat_cmp_total)
    (then_total (on_total (λ (c : Claim). c.origin) origins_total)
    (then_total (on_total (λ (c : Claim). c.how) hows_total) (on_total (λ (c : Claim). c.from) (options_total nodes_total))))

pub exact_hows : CmpEqualImpliesEq how_cmp
exact_hows Normal Normal e = refl
exact_hows Normal Failover e = cc
exact_hows Normal Takeover e = cc
exact_hows Failover Normal e = cc
exact_hows Failover Failover e = refl
exact_hows Failover Takeover e = cc
exact_hows Takeover Normal e = cc
exact_hows Takeover Failover e = cc
exact_hows Takeover Takeover e = refl

exact_options : CmpEqualImpliesEq (option_cmp node_cmp)
exact_options None None e = refl
exact_options None (Some y) e = cc
exact_options (Some x) None e = cc
exact_options (Some x) (Some y) e = ap (λ n. Some n) (exact_nodes x y e)

-- only equal claims tie, if only equal ways tie
pub exact_claims : (hows : How → How → Ordering) → CmpEqualImpliesEq hows
    → CmpEqualImpliesEq (λ (a b : Claim). ordering_then (nat_cmp a.term b.term) (ordering_then (origin_cmp a.origin b.origin) (manner_cmp hows (a.how, a.from) (b.how, b.from))))
exact_claims hows exact a b h =
    let manners = exact_pairs hows (option_cmp node_cmp) exact exact_options in
    let rest : CmpEqualImpliesEq (λ (x y : Origin × (How × Option NodeId)). ordering_then (origin_cmp x.0 y.0) (manner_cmp hows x.1 y.1)) = exact_pairs origin_cmp (manner_cmp hows) exact_origins manners in
    ap (λ (p : ℕ × (Origin × (How × Option NodeId))). record { term = p.0; origin = p.1.0; how = p.1.1.0; from = p.1.1.1 })
    (exact_pairs nat_cmp (λ x y. ordering_then (origin_cmp x.0 y.0) (manner_cmp hows x.1 y.1)) exact_unsigned rest (a.term, (a.origin, (a.how, a.from))) (b.term, (b.origin, (b.how, b.from))) h)
