-- Journals that consist of the phases of their run.
use Rattle.std.specs.Prelude.{⊤, ◌≡◌, ◌≢◌, ◌<◌, ◌≤◌, ◌++◌, ℕ, All, List, [], ◌∷◌, length, map, slice_index_or}
use Rattle.dac_crews.specs.Record.{Record}
use Rattle.dac_crews.specs.Journals.{JournalValue}
use Rattle.dac_crews.specs.Compared.{Linked, found, event_one}
use Rattle.dac_crews.specs.declared.phases.Phase.{Phase}
use Rattle.dac_phases.specs.Asks.{ask_one}
use Rattle.dac_phases.specs.Pairs.{shipper_seat, worker_seat}

-- the records of this node
abbrev pub part_at : List (List Record) → ℕ → List Record
part_at all node = slice_index_or all node []

-- each journal is its part, followed by its rest
abbrev pub AreParted : List (List Record) → List (List Record) → List (List Record) → Type 0
AreParted [] [] [] = ⊤
AreParted [] [] (r ∷ rs) = ⊥
AreParted [] (p ∷ ps) [] = ⊥
AreParted [] (p ∷ ps) (r ∷ rs) = ⊥
AreParted (j ∷ js) [] [] = ⊥
AreParted (j ∷ js) [] (r ∷ rs) = ⊥
AreParted (j ∷ js) (p ∷ ps) [] = ⊥
AreParted (j ∷ js) (p ∷ ps) (r ∷ rs) = (j ≡ p ++ r) × AreParted js ps rs

-- the records of each caller's seat at this node are the caller's lines of the phase that call, in order
abbrev pub AskLines : Phase → ℕ → List Record → Type 0
AskLines phase node part = (caller : ℕ) → 1 ≤ caller → caller ≤ 4
    → found (event_one caller) part ≡ found (ask_one node caller) phase.lines.items

-- the records at both ends of each link from this node match in one phase
abbrev pub UseLinks : ℕ → List (List Record) → Type 0
UseLinks from parts = (to : ℕ) → to < length parts → to ≢ from
    → Linked 1 (record { 0 = to }) (shipper_seat from to) (worker_seat to from) (part_at parts from) (part_at parts to)

-- The parts are the records of one phase, of each node: callers call the phase's lines, each shipper ships five times,
-- and each link worker hears exactly what its shipper ships in the phase.
pub record PhaseHolds (phase : Phase) (parts : List (List Record)) : Type 0 where
  pub asked : (node : ℕ) → node < length parts → AskLines phase node (part_at parts node)
  pub links : (from : ℕ) → from < length parts → UseLinks from parts

-- the journals begin with the records of this phase, and the rests satisfy `Others`
pub record BeginWith (phase : Phase) (Others : List (List Record) → Type 0) (journals : List (List Record)) : Type 0 where
  pub parts : List (List Record)
  pub rests : List (List Record)
  pub parted : AreParted journals parts rests
  pub holds : PhaseHolds phase parts
  pub others : Others rests

-- the journals consist of the records of the phases, one phase after another
abbrev pub ArePhased : List Phase → List (List Record) → Type 0
ArePhased [] journals = All (λ (rs : List Record). rs ≡ []) journals
ArePhased (phase ∷ phases) journals = BeginWith phase (ArePhased phases) journals

-- the closed journals consist of the records of the phases
abbrev pub FallIntoPhases : List Phase → List JournalValue → Type 0
FallIntoPhases phases closed = ArePhased phases (map (λ (j : JournalValue). j.records) closed)
