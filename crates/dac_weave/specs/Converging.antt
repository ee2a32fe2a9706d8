-- Guarantees of the run of the woven events.
use Rattle.std.specs.Prelude.{ℕ, List, map}
use Rattle.dac_config.specs.Table.{Table}
use Rattle.dac_events.specs.declared.WorldEvent.{WorldEvent}
use Rattle.dac_journal.specs.Histories.{IsHistory, off_after}
use Rattle.dac_journal.specs.ModelWorld.{start}
use Rattle.dac_journal.specs.EveryList.{answers_of, model_run, shown_world}
use Rattle.dac_journal.specs.Converges.{Converges}
use Rattle.dac_journal.specs.Journals.{JournalValue, entry_of}
use Rattle.dac_weave.specs.Woven.{At}

-- The guarantees of every run hold for the run of es, and each journal is a history of its node, from never booted to
-- the state in which the run leaves it.
pub record IsConverged (t : Table) (js : List JournalValue) (es : List WorldEvent) : Type 0 where
  pub converges : Converges t es (answers_of t (start t) es) (shown_world t (model_run t es))
  pub ends : (i : ℕ) (j : JournalValue) → At js i j
      → IsHistory t j.beginning.node (off_after 0) (map entry_of j.records) ((model_run t es).node j.beginning.node)
