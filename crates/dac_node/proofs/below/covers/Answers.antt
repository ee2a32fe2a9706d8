use Rattle.std.proofs.Common.{[], ◌∷◌}
use Rattle.dac_node.proofs.Common.{meaning_of, is_below, is_below-is}
use Rattle.dac_node.proofs.Tests.{same}
use Rattle.dac_node.proofs.below.covers.Goals as goal

pub returns : goal.returns
returns c =
    let delta = meaning_of (c.args.operation.now ∷ []) in
    let law = is_below-is delta c.args.state.now in
    same c.covers.result (is_below delta c.args.state.now) (λ e. law.0 (c.covers.ensures.0 e)) (λ e. c.covers.ensures.1 (law.1 e))
