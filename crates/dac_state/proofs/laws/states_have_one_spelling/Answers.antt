use Rattle.dac_state.proofs.StateCodec.{state_codec}
use Rattle.dac_state.proofs.laws.states_have_one_spelling.Goals as goal

pub returns : goal.returns
returns c = λ version. state_codec version c.args.config.now (c.parts_have_one_spelling.ensures version)
