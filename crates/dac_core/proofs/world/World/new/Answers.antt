use Rattle.dac_settle.specs.dac_model_world.laws.Made.{start_made}
use Rattle.dac_core.proofs.world.World.new.Goals as goal

pub invariant_of-result : goal.invariant_of-result
invariant_of-result c = start_made c.args.config.now c.in_ok-cluster.cluster c.in_ok-cluster.ensures
