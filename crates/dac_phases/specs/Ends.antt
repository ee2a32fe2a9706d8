-- The ends of phases in journals that consist of them.
use Rattle.std.specs.Prelude.{⊤, ◌≡◌, ◌==◌, ◌+◌, ◌-◌, ◌<◌, ◌≤◌, ℕ, suc, zero, min, All, List, [], ◌∷◌, length, map, take, drop, Option, Some, None, if◌then◌else◌}
use Rattle.std.specs.Global.{Vec}
use Rattle.std.specs.List.{AllZip}
use Rattle.dac_messages.specs.declared.event.Event.{Event}
use Rattle.dac_crews.specs.Record.{Record}
use Rattle.dac_crews.specs.Journals.{JournalValue}
use Rattle.dac_crews.specs.Compared.{found, shipped_in}
use Rattle.dac_crews.specs.declared.phases.Line.{Line}
use Rattle.dac_crews.specs.declared.phases.Phase.{Phase}
use Rattle.dac_phases.specs.Asks.{event_in}
use Rattle.dac_phases.specs.Pairs.{shipper_seat}
use Rattle.dac_phases.specs.Phases.{PhaseHolds, part_at}

-- ---- the ends
-- the records of each journal after one row and up to another; a row has the number of records of each journal
abbrev pub between : List (List Record) → List ℕ → List ℕ → List (List Record)
between [] before row = []
between (j ∷ js) [] row = []
between (j ∷ js) (m ∷ before) [] = []
between (j ∷ js) (m ∷ before) (n ∷ row) = drop m (take n j) ∷ between js before row

-- the rows rise from `before`, and the last one is `last`
abbrev pub RiseTo : List ℕ → List (List ℕ) → List ℕ → Type 0
RiseTo last [] before = before ≡ last
RiseTo last (row ∷ rows) before = AllZip (λ (m n : ℕ). m ≤ n) before row × RiseTo last rows row

-- the records after each row and up to the next one are those of a phase
abbrev pub HoldBetween : List (List Record) → List Phase → List (List ℕ) → List ℕ → Type 0
HoldBetween journals [] [] before = ⊤
HoldBetween journals [] (row ∷ rows) before = ⊥
HoldBetween journals (phase ∷ phases) [] before = ⊥
HoldBetween journals (phase ∷ phases) (row ∷ rows) before =
    PhaseHolds phase (between journals before row) × HoldBetween journals phases rows row

-- the row before the first phase, and the one after the last
abbrev pub no_ends : List JournalValue → List ℕ
no_ends closed = map (λ (j : JournalValue). 0) closed

abbrev pub lengths_of : List JournalValue → List ℕ
lengths_of closed = map (λ (j : JournalValue). length j.records) closed

-- The rows are the ends of the phases: how many records each journal has up to the end of each phase. They rise to the
-- journals' lengths, and the records between two ends are those of a phase.
pub record EndPhases (phases : List Phase) (closed : List JournalValue) (rows : List (List ℕ)) : Type 0 where
  pub rise : RiseTo (lengths_of closed) rows (no_ends closed)
  pub hold : HoldBetween (map (λ (j : JournalValue). j.records) closed) phases rows (no_ends closed)

-- the rows in these lists
abbrev pub rows_of : List (Vec ℕ) → List (List ℕ)
rows_of ends = map (λ (row : Vec ℕ). row.items) ends

-- each line of the phase is for a caller from 1 to 4
abbrev pub HasCallers : Phase → Type 0
HasCallers phase = All (λ (line : Line). (1 ≤ line.caller) × (line.caller ≤ 4)) phase.lines.items

-- ---- the number of a node's records in a phase
-- the event of the line, if it calls the node
abbrev pub call_one : ℕ → Line → Option Event
call_one node line = if line.node.0 == node then event_in line.what else None

-- 1 for a value, else 0
abbrev pub count_in : {X : Type 0} → Option X → ℕ
count_in None = 0
count_in (Some x) = 1

-- the number of messages that this seat's first `ships` records ship
abbrev pub first_letters : ℕ → ℕ → List Record → ℕ
first_letters seat zero records = 0
first_letters seat (suc ships) [] = 0
first_letters seat (suc ships) (r ∷ records) =
    if r.seat == seat then count_in (shipped_in r.answer) + first_letters seat ships records
    else first_letters seat (suc ships) records

-- the number of the node's records for its links in a phase: five for each shipper, and one for each message that
-- another node ships to it; the first journal is of node `other`
abbrev pub link_records : ℕ → ℕ → List (List Record) → ℕ
link_records node other [] = 0
link_records node other (j ∷ js) =
    (if other == node then 0 else first_letters (shipper_seat other node) 5 j + 5) + link_records node (other + 1) js

-- the number of the node's records in the first phase of journals that consist of phases
abbrev pub part_length : Phase → List (List Record) → ℕ → ℕ
part_length phase journals node = length (found (call_one node) phase.lines.items) + link_records node 0 journals

-- each part has this many records, or all of its journal
abbrev pub HaveLengths : Phase → List (List Record) → List (List Record) → Type 0
HaveLengths phase journals parts =
    (node : ℕ) → node < length journals
    → length (part_at parts node) ≡ min (part_length phase journals node) (length (part_at journals node))

-- the number of records of each journal before its rest
abbrev pub ends_before : List (List Record) → List (List Record) → List ℕ
ends_before [] rests = []
ends_before (j ∷ js) [] = []
ends_before (j ∷ js) (r ∷ rests) = (length j - length r) ∷ ends_before js rests
