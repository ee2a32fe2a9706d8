use Rattle.std.proofs.Common.{Some, sym, subst, ◌∙◌}
use Rattle.std.proofs.lemmas.Bool.{false≢true}
use Rattle.dac_base.specs.laws.Ids.{nodes_total, exact_nodes}
use Rattle.dac_lattice.specs.Chains.{IsAtMost}
use Rattle.dac_lattice.specs.Lattices.{IsOptionBelow}
use Rattle.dac_chains.specs.Lives.{life_cmp}
use Rattle.dac_chains.proofs.OneBelow.{one_below}
use Rattle.dac_chains.proofs.lives.Lives.reaches.Goals as goal

pub returns-in-Some : goal.returns-in-Some
returns-in-Some c =
    let law = one_below nodes_total exact_nodes life_cmp c.args.node c.args.life c.args.self.now in (
      λ e. law.0 (subst (IsOptionBelow (IsAtMost life_cmp) (Some c.args.life)) c.in-Some.ensures (sym c.is_life_within.ensures ∙ e)),
      λ below. c.is_life_within.ensures ∙ subst (IsOptionBelow (IsAtMost life_cmp) (Some c.args.life)) (sym c.in-Some.ensures) (law.1 below),
    )

pub returns-in-None : goal.returns-in-None
returns-in-None c =
    let law = one_below nodes_total exact_nodes life_cmp c.args.node c.args.life c.args.self.now in
    (λ e. absurd (false≢true e), λ below. absurd (subst (IsOptionBelow (IsAtMost life_cmp) (Some c.args.life)) (sym c.in-None.ensures) (law.1 below)))
