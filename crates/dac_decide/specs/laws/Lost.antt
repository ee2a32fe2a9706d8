-- The tests of lost claims agree with `IsLost`.
use Rattle.std.proofs.Common.{◌≡◌, Bool, true, false, cond, Option, Some, None, refl, sym, ap, ◌∙◌}
use Rattle.std.specs.Option.{is_some, option_and_then}
use Rattle.std.specs.Ordering.{is_eq}
use Rattle.std.specs.Cmp.{Equal-is}
use Rattle.std.specs.FinMap as map
use Rattle.std.proofs.lemmas.Bool.{true≢false, false≢true}
use Rattle.std.proofs.lemmas.Cmp.{tied_itself}
use Rattle.dac_base.specs.declared.AppId.{AppId}
use Rattle.dac_chains.specs.declared.claims.Claim.{Claim}
use Rattle.dac_chains.specs.Claims.{claim_cmp, how_cmp}
use Rattle.dac_chains.specs.laws.Claims.{claims_total, exact_hows, exact_claims}
use Rattle.dac_placement.specs.StateValue.{StateValue}
use Rattle.dac_placement.specs.Placement.{IsUp, is_up}
use Rattle.dac_placement.specs.laws.Tests.{up_is}
use Rattle.dac_decide.specs.FailoverWait.{IsLost, lost_if, lost_in, is_same}

-- ---- claims

pub same_to : (a b : Claim) → is_same a b ≡ true → a ≡ b
same_to a b e = exact_claims how_cmp exact_hows a b ((Equal-is (claim_cmp a b)).0 e)

pub same_itself : (a : Claim) → is_same a a ≡ true
same_itself a = ap is_eq (tied_itself claims_total a)

-- ---- lost claims

module _ (s : StateValue) (app : AppId) where
  one : {a b : Claim} → ◌≡◌ {A = Option Claim} (Some a) (Some b) → a ≡ b
  one e = cc

  lost_by : (claim : Claim) (o : Option Claim) → map.get s.claims app ≡ o → option_and_then (lost_if s) o ≡ Some claim → IsLost s app claim
  lost_by claim None e h = absurd (false≢true (ap is_some h))
  lost_by claim (Some greatest) e h = elim (is_up s greatest.origin) as (λ b. is_up s greatest.origin ≡ b → cond b None (Some greatest) ≡ Some claim → IsLost s app claim) [
    | true ↦ λ up h. absurd (false≢true (ap is_some h))
    | false ↦ λ down h.
        let same : greatest ≡ claim = one h in
        record {
          greatest = e ∙ h;
          down = λ up. true≢false (sym ((up_is s claim.origin).1 up) ∙ ap (λ (c : Claim). is_up s c.origin) (sym same) ∙ down);
        }
  ] refl h

  pub lost_to : (claim : Claim) → lost_in s app ≡ Some claim → IsLost s app claim
  lost_to claim e = lost_by claim (map.get s.claims app) refl e

  not_up : (claim : Claim) (b : Bool) → is_up s claim.origin ≡ b → ¬ IsUp s claim.origin → cond b None (Some claim) ≡ Some claim
  not_up claim true e down = absurd (down ((up_is s claim.origin).0 e))
  not_up claim false e down = refl

  pub to_lost : (claim : Claim) → IsLost s app claim → lost_in s app ≡ Some claim
  to_lost claim lost = ap (option_and_then (lost_if s)) lost.greatest ∙ not_up claim (is_up s claim.origin) refl lost.down
