use Rattle.dac_model_world.specs.laws.StaysOpen.{gates_stay_open}
use Rattle.dac_model_world.proofs.laws.gates_stay_open.Goals as goal

pub returns : goal.returns
returns c = gates_stay_open
