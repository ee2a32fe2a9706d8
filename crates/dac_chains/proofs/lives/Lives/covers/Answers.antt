use Rattle.std.proofs.Common.{refl, sym, subst}
use Rattle.dac_base.specs.laws.Ids.{nodes_total, exact_nodes}
use Rattle.dac_chains.specs.Greatest.{AreNotAbove, alone}
use Rattle.dac_chains.specs.Lives.{life_cmp, life_report}
use Rattle.dac_chains.proofs.OneBelow.{nothing_below}
use Rattle.dac_chains.proofs.lives.Lives.covers.Goals as goal

pub returns-in-Other : goal.returns-in-Other
returns-in-Other c = (
  λ _. subst (λ act. AreNotAbove life_cmp (alone (life_report c.args.dot act)) c.args.self.now) (sym c.in-Other.is) (nothing_below nodes_total exact_nodes life_cmp c.args.self.now),
  λ _. refl,
)
