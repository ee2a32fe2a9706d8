use Rattle.std.proofs.Common.{subst}
use Rattle.std.specs.Prelude.{IfOk}
use Rattle.dac_journal.specs.Journals.{JournalValue}
use Rattle.dac_journal.specs.Going.{GoesTo}
use Rattle.dac_journal.proofs.journal.Journal.prepare.Goals as goal

pub returns-clause-goes : goal.returns-clause-goes
returns-clause-goes c = subst (λ (j : JournalValue). IfOk c.prepare_next.result (GoesTo j c.args.seat c.args.event)) c.warm.ensures c.prepare_next.ensures.goes
