use Rattle.std.proofs.Common.{subst}
use Rattle.dac_node.proofs.Common.{is_below}
use Rattle.std.specs.Prelude.{◌↔◌, IsTrue}
use Rattle.dac_origins.specs.Dots.{Dots, IsSubset}
use Rattle.dac_node.proofs.Tests.{same}
use Rattle.dac_node.proofs.below.is_below_by_dots.Goals as goal

pub returns : goal.returns
returns c =
    let dots : IsTrue c.is_subset.result ↔ IsSubset c.args.state.now.heard c.args.other.now.heard =
    subst (λ (p : Dots × Dots). IsTrue c.is_subset.result ↔ IsSubset p.0 p.1) (λ i. (c.heard.ensures i, c.heard-2.ensures i)) c.is_subset.ensures in
    same c.is_subset.result (is_below c.args.state.now c.args.other.now) (λ e. c.requires.1 (dots.0 e)) (λ e. dots.1 (c.requires.0 e))
