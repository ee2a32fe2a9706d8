use Rattle.dac_bytes.specs.laws.Calls.{found_call, again_call}
use Rattle.dac_state.specs.StateForm.{IsInForm}
use Rattle.dac_state.specs.StateReading.{parts_at}
use Rattle.dac_state.specs.StateSpelling.{state_bytes}
use Rattle.dac_state.proofs.state.State.read.Goals as goal

pub returns-clause-found : goal.returns-clause-found
returns-clause-found c =
    found_call (λ x. x) (parts_at c.args.version c.args.config.now) (state_bytes c.args.version) (IsInForm c.args.version c.args.config.now) (c.states_have_one_spelling.ensures c.args.version).takes c.args.reader c.read_next.result c.read_next.ensures

pub returns-clause-again : goal.returns-clause-again
returns-clause-again c =
    again_call (λ x. x) (parts_at c.args.version c.args.config.now) (state_bytes c.args.version) (IsInForm c.args.version c.args.config.now) (c.states_have_one_spelling.ensures c.args.version).again c.args.reader c.read_next.result c.read_next.ensures
