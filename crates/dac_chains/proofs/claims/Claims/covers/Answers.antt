use Rattle.std.proofs.Common.{refl, sym, subst}
use Rattle.dac_base.specs.laws.Ids.{apps_total, exact_apps}
use Rattle.dac_chains.specs.Greatest.{AreNotAbove, alone}
use Rattle.dac_chains.specs.Claims.{claim_cmp, claim_report}
use Rattle.dac_chains.proofs.OneBelow.{nothing_below}
use Rattle.dac_chains.proofs.claims.Claims.covers.Goals as goal

pub returns-in-Other : goal.returns-in-Other
returns-in-Other c = (
  λ _. subst (λ act. AreNotAbove claim_cmp (alone (claim_report c.args.dot act)) c.args.self.now) (sym c.in-Other.is) (nothing_below apps_total exact_apps claim_cmp c.args.self.now),
  λ _. refl,
)
