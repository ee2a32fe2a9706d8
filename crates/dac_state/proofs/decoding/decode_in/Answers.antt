use Rattle.std.proofs.Common.{arith}
use Rattle.dac_state.proofs.Reading.{state_found, state_again}
use Rattle.dac_state.proofs.decoding.decode_in.Goals as goal

pub returns-clause-found : goal.returns-clause-found
returns-clause-found c = state_found c.args.version c.args.config.now (c.states_have_one_spelling.ensures c.args.version) c.args.bytes.now (λ i. omega (arith, c.type_inv.bytes i)) c.read_state.result c.read_state.ensures

pub returns-clause-only : goal.returns-clause-only
returns-clause-only c = state_again c.args.version c.args.config.now (c.states_have_one_spelling.ensures c.args.version) c.args.bytes.now c.read_state.result c.read_state.ensures
