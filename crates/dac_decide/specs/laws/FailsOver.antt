-- The verdict is a failover if the greatest claim is lost and there is a first choice.
use Rattle.std.proofs.Common.{◌≡◌, ◌↔◌, Option, Some, None, refl, sym, ap, subst}
use Rattle.std.proofs.lemmas.Bool.{false≢true}
use Rattle.std.specs.Option.{is_some, option_map}
use Rattle.std.specs.FinMap as map
use Rattle.dac_base.specs.declared.AppId.{AppId}
use Rattle.dac_base.specs.declared.NodeId.{NodeId}
use Rattle.dac_lattice.specs.Origin.{Origin}
use Rattle.dac_config.specs.Table.{Table}
use Rattle.dac_chains.specs.declared.claims.Claim.{Claim}
use Rattle.dac_placement.specs.StateValue.{StateValue}
use Rattle.dac_placement.specs.declared.verdicts.Verdict.TheVariants.{Failover}
use Rattle.dac_placement.specs.Placement.{IsUp, IsFirst, IsVerdict}
use Rattle.dac_decide.specs.FailoverWait.{IsLost}

one_origin : {o p : Origin} → ◌≡◌ {A = Option Origin} (Some o) (Some p) → o ≡ p
one_origin e = cc

lost_claim : (s : StateValue) (app : AppId) (o : Origin) (c : Option Claim) → map.get s.claims app ≡ c → option_map (λ (claim : Claim). claim.origin) c ≡ Some o → ¬ IsUp s o → (claim : Claim) × IsLost s app claim
lost_claim s app o None is held down = absurd (false≢true (ap is_some held))
lost_claim s app o (Some claim) is held down = (claim, record { greatest = is; down = subst (λ p. ¬ IsUp s p) (sym (one_origin held)) down })

pub lost_fails_over : (table : Table) (s : StateValue) (app : AppId) (n : NodeId) → IsVerdict table s app (Failover n) ↔ (((claim : Claim) × IsLost s app claim) × IsFirst table s app n)
lost_fails_over table s app n = (
  λ h. (lost_claim s app h.0.0 (map.get s.claims app) refl h.0.1 h.0.2, h.1),
  λ h. ((h.0.0.origin, ap (option_map (λ (claim : Claim). claim.origin)) h.0.1.greatest, h.0.1.down), h.1),
)
