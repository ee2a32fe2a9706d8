use Rattle.dac_node.proofs.Common.{is_below, is_below-is}
use Rattle.dac_node.proofs.Tests.{same}
use Rattle.dac_node.proofs.below.is_below.Goals as goal

pub returns : goal.returns
returns c =
    let law = is_below-is c.args.state.now c.args.other.now in
    same c.leq.result (is_below c.args.state.now c.args.other.now) (λ e. law.0 (c.leq.ensures.0 e)) (λ e. c.leq.ensures.1 (law.1 e))
