use Rattle.dac_model_node.specs.laws.HeldBack.{held_ticks_note_nothing, held_ticks_count}
use Rattle.dac_model_node.proofs.laws.held_ticks_wait.Goals as goal

pub returns-clause-notes : goal.returns-clause-notes
returns-clause-notes c = held_ticks_note_nothing

pub returns-clause-moment : goal.returns-clause-moment
returns-clause-moment c = held_ticks_count
