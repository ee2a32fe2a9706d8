-- Whether a run records these journals, by the records that each node keeps of a run.
use Rattle.std.specs.Prelude.{◌≡◌, ℕ, List, [], map}
use Rattle.dac_base.specs.declared.NodeId.{NodeId}
use Rattle.dac_config.specs.Table.{Table}
use Rattle.dac_events.specs.declared.WorldEvent.{WorldEvent}
use Rattle.dac_journal.specs.Histories.{Entry}
use Rattle.dac_journal.specs.ModelWorld.{start}
use Rattle.dac_journal.specs.Records.{records_at}
use Rattle.dac_journal.specs.EveryList.{answers_of}
use Rattle.dac_journal.specs.Journals.{JournalValue, entry_of}
use Rattle.dac_weave.specs.Woven.{At, HasNone, AllFit}

-- the records of node n in the model's run of es
abbrev pub records_in : Table → List WorldEvent → NodeId → List Entry
records_in t es n = records_at t n (start t) es (answers_of t (start t) es)

-- Each journal's node records exactly the journal, and no other node records anything. Events in es that name no node,
-- message or operation change nothing and aren't recorded.
pub record IsRecorded (t : Table) (js : List JournalValue) (es : List WorldEvent) : Type 0 where
  pub fit : AllFit js
  pub each : (i : ℕ) (j : JournalValue) → At js i j → records_in t es j.beginning.node ≡ map entry_of j.records
  pub others : (n : NodeId) → HasNone js n → records_in t es n ≡ []
