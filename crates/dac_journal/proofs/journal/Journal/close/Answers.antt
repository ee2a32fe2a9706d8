use Rattle.dac_journal.specs.laws.Going.{is_history}
use Rattle.dac_journal.proofs.journal.Journal.close.Goals as goal

pub invariant_of-result : goal.invariant_of-result
invariant_of-result c = is_history _ _ _ c.self.invariant.0
