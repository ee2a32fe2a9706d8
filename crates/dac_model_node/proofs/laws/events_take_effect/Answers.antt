use Rattle.std.proofs.Common.{subst, sym}
use Rattle.dac_model_node.specs.laws.Common.{Reply, NodeValue, HasEffect}
use Rattle.dac_model_node.specs.laws.Effect.{takes_effect}
use Rattle.dac_model_node.proofs.laws.events_take_effect.Goals as goal

pub returns : goal.returns
returns c t me old e new reply p =
    subst (λ (x : NodeValue × Reply). HasEffect t old e x.1 x.0) (λ i. (sym p.left i, sym p.reply i)) (takes_effect t me old.last old.running p.noted e p.accepted p.state)
