use Rattle.std.proofs.Common.{◌≡◌, [], ◌∷◌, sym, ◌∙◌}
use Rattle.dac_node.proofs.Common.{meaning_of, is_below}
use Rattle.std.specs.FinSet as set
use Rattle.dac_node.proofs.Tests.{same}
use Rattle.dac_node.proofs.below.covers_by_dot.Goals as goal

pub returns : goal.returns
returns c =
    let heard : c.contains.result ≡ set.contains c.args.state.now.heard c.args.operation.now.dot = c.contains.ensures ∙ (λ i. set.contains (c.heard.ensures i) (c.dot.ensures i)) in
    same c.contains.result (is_below (meaning_of (c.args.operation.now ∷ [])) c.args.state.now) (λ e. c.requires.1 (sym heard ∙ e)) (λ e. heard ∙ c.requires.0 e)
