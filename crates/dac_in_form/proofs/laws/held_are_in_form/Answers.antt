use Rattle.dac_in_form.proofs.HeldForm.{held_are_in_form}
use Rattle.dac_in_form.proofs.laws.held_are_in_form.Goals as goal

pub returns : goal.returns
returns c = held_are_in_form c.meanings_are_in_form.ensures c.runs_converge.ensures.converges
