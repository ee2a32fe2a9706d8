-- A run of the phases, one after another.
use Rattle.std.specs.Prelude.{ℕ, ◌≤◌, List, length, take}
use Rattle.std.specs.List.{AllZip}
use Rattle.dac_base.specs.declared.NodeId.{NodeId}
use Rattle.dac_config.specs.Table.{Table}
use Rattle.dac_events.specs.declared.WorldEvent.{WorldEvent}
use Rattle.dac_weave.specs.declared.fault.WeaveFault.{WeaveFault}
use Rattle.dac_weave.specs.declared.fault.WeaveFault.TheVariants.{Unwoven, NoMemory}
use Rattle.dac_journal.specs.Journals.{JournalValue}
use Rattle.dac_weave.specs.Cut.{cut}
use Rattle.dac_weave.specs.Recording.{IsRecorded}
use Rattle.dac_weave.specs.Woven.{At, Gives, IsUnwoven}

-- the first events, as many as the bound says, reproduce the journals up to the end of a phase
pub record GivesUpTo (t : Table) (js : List JournalValue) (es : List WorldEvent) (row : List ℕ) (bound : ℕ) : Type 0 where
  pub within : bound ≤ length es
  pub gives : Gives t (cut js row) (take bound es)

-- each bound is the end of a phase in the run, so no event precedes one of an earlier phase
abbrev pub GivesPhases : Table → List JournalValue → List WorldEvent → List (List ℕ) → List ℕ → Type 0
GivesPhases t js es rows bounds = AllZip (GivesUpTo t js es) rows bounds

-- Every run of the journals up to the end of some phase stops at this node and record, and no run records them.
pub record IsUnwovenUpTo (t : Table) (js : List JournalValue) (rows : List (List ℕ)) (node : NodeId)
    (place : ℕ) : Type 0 where
  pub phase : ℕ
  pub row : List ℕ
  pub at : At rows phase row
  pub unwoven : IsUnwoven t (cut js row) node place
  pub none : (es : List WorldEvent) → IsRecorded t (cut js row) es → ⊥

-- the meaning of a fault of journals in phases
abbrev pub IsPhaseFault : Table → List JournalValue → List (List ℕ) → WeaveFault → Type 0
IsPhaseFault t js rows (Unwoven node place) = IsUnwovenUpTo t js rows node place
IsPhaseFault t js rows NoMemory = Unit {0}
