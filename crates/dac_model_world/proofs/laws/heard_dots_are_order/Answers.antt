use Rattle.dac_model_world.specs.laws.HeardDots.{heard_dots_are_order, one_dot_is_order}
use Rattle.dac_model_world.proofs.laws.heard_dots_are_order.Goals as goal

pub returns-clause-states : goal.returns-clause-states
returns-clause-states c = heard_dots_are_order

pub returns-clause-operations : goal.returns-clause-operations
returns-clause-operations c = one_dot_is_order
