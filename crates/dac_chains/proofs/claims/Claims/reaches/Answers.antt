use Rattle.std.proofs.Common.{Some, sym, subst, ◌∙◌}
use Rattle.std.proofs.lemmas.Bool.{false≢true}
use Rattle.dac_base.specs.laws.Ids.{apps_total, exact_apps}
use Rattle.dac_lattice.specs.Chains.{IsAtMost}
use Rattle.dac_lattice.specs.Lattices.{IsOptionBelow}
use Rattle.dac_chains.specs.Claims.{claim_cmp}
use Rattle.dac_chains.proofs.OneBelow.{one_below}
use Rattle.dac_chains.proofs.claims.Claims.reaches.Goals as goal

pub returns-in-Some : goal.returns-in-Some
returns-in-Some c =
    let law = one_below apps_total exact_apps claim_cmp c.args.app c.args.claim c.args.self.now in (
      λ e. law.0 (subst (IsOptionBelow (IsAtMost claim_cmp) (Some c.args.claim)) c.in-Some.ensures (sym c.is_claim_within.ensures ∙ e)),
      λ below. c.is_claim_within.ensures ∙ subst (IsOptionBelow (IsAtMost claim_cmp) (Some c.args.claim)) (sym c.in-Some.ensures) (law.1 below),
    )

pub returns-in-None : goal.returns-in-None
returns-in-None c =
    let law = one_below apps_total exact_apps claim_cmp c.args.app c.args.claim c.args.self.now in
    (λ e. absurd (false≢true e), λ below. absurd (subst (IsOptionBelow (IsAtMost claim_cmp) (Some c.args.claim)) (sym c.in-None.ensures) (law.1 below)))
