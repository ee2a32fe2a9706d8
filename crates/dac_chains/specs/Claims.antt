-- The greatest claim of each application. A claim records that its issuer runs the application, and how it came there:
-- started or moved, after a failover or by a takeover. (The ways are those of OTP's distributed applications. The order
-- of claims is this project's own.)
use Rattle.std.specs.Prelude.{◌≡◌, ℕ, List, Option, None, Some, refl}
use Rattle.std.proofs.Common.{zero, suc}
use Rattle.std.specs.declared.cmp.Ordering.{Ordering}
use Rattle.std.specs.Ordering.{nat_cmp, ordering_then}
use Rattle.std.specs.Option.{option_cmp}
use Rattle.std.specs.FinMap as map
use Rattle.std.specs.Coded.{Coded, code_by, coded×, coded_ℕ, coded_option}
use Rattle.dac_base.specs.declared.NodeId.{NodeId}
use Rattle.dac_base.specs.declared.AppId.{AppId}
use Rattle.dac_base.specs.Ids.{app_cmp, node_cmp, coded_node}
use Rattle.dac_lattice.specs.Dot.{Dot}
use Rattle.dac_lattice.specs.Origin.{Origin}
use Rattle.dac_lattice.specs.Dots.{origin_cmp, coded_origin}
use Rattle.dac_chains.specs.Greatest.{IsGreatest, IsSaid}
use Rattle.dac_chains.specs.declared.claims.How.{How}
use Rattle.dac_chains.specs.declared.claims.How.TheVariants.{Normal, Failover, Takeover}
use Rattle.dac_chains.specs.declared.claims.Claim.{Claim}
use Rattle.dac_chains.specs.declared.claims.ClaimAct.{ClaimAct}
use Rattle.dac_chains.specs.declared.claims.ClaimAct.TheVariants.{Claim as Claimed, Other}

-- the rank of a way to claim
abbrev pub rank : How → ℕ
rank Normal = 0
rank Failover = 1
rank Takeover = 2

-- the order of ways: normal, failover, takeover
abbrev pub how_cmp : How → How → Ordering
how_cmp x y = nat_cmp (rank x) (rank y)

-- ordered by way, then by the previous node, none first
abbrev pub manner_cmp : (How → How → Ordering) → How × Option NodeId → How × Option NodeId → Ordering
manner_cmp hows x y = ordering_then (hows x.0 y.0) (option_cmp node_cmp x.1 y.1)

-- claims ordered by term, the claimer's node and incarnation, way, and the previous node, none first
abbrev pub claim_cmp : Claim → Claim → Ordering
claim_cmp a b = ordering_then (nat_cmp a.term b.term)
    (ordering_then (origin_cmp a.origin b.origin) (manner_cmp how_cmp (a.how, a.from) (b.how, b.from)))

-- a claim for each application that was claimed
abbrev pub Claims : Type 0
Claims = map.FinMap app_cmp Claim

-- the claim that an operation makes, with its application, if any
abbrev pub claim_report : Dot → ClaimAct → Option (AppId × Claim)
claim_report d (Claimed app term how from) = Some (app, record { term = term; origin = d.origin; how = how; from = from })
claim_report d Other = None

-- the greatest claim of the application among those of the operations, or None if there is none
abbrev pub IsGreatestClaimOf : AppId → List (Dot × ClaimAct) → Option Claim → Type 0
IsGreatestClaimOf app os claim = IsGreatest claim_cmp (IsSaid claim_report os app) claim

-- each application has its greatest claim among those of the operations
abbrev pub AreGreatestClaims : List (Dot × ClaimAct) → Claims → Type 0
AreGreatestClaims os claims = (app : AppId) → IsGreatestClaimOf app os (map.get claims app)

abbrev how_at : ℕ → How
how_at zero = Normal
how_at (suc zero) = Failover
how_at (suc (suc n)) = Takeover

pub how_at-rank : (h : How) → how_at (rank h) ≡ h
how_at-rank Normal = refl
how_at-rank Failover = refl
how_at-rank Takeover = refl

-- a way to claim encoded as a number
abbrev pub coded_how : Coded How
coded_how = code_by ℕ coded_ℕ rank how_at how_at-rank

-- a claim encoded as a tuple
abbrev pub coded_claim : Coded Claim
coded_claim =
    code_by (ℕ × (Origin × (How × Option NodeId))) (coded× coded_ℕ (coded× coded_origin (coded× coded_how (coded_option coded_node))))
    (λ c. (c.term, (c.origin, (c.how, c.from)))) (λ p. record { term = p.0; origin = p.1.0; how = p.1.1.0; from = p.1.1.1 }) (λ _. refl)
