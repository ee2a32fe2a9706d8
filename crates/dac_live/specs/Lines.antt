-- The results of callers' lines, and the records of their seats.
use Rattle.std.specs.Prelude.{⊤, ℕ, ◌≡◌, ◌<◌, ◌≤◌, ◌++◌, ◌∷◌, [], All, List, Option, Some, None, Result, flat_map, if◌then◌else◌, length, zip}
use Rattle.std.specs.List.{AllZip}
use Rattle.dac_messages.specs.declared.reply.Reply.{Reply}
use Rattle.dac_events.specs.declared.refusal.Refusal.{Refusal}
use Rattle.dac_pages.specs.declared.page.Page.{Page}
use Rattle.dac_workers.specs.declared.reading.Reading.{Reading}
use Rattle.dac_workers.specs.declared.reading.Reading.TheVariants as reading
use Rattle.dac_crews.specs.Record.{Record}
use Rattle.dac_crews.specs.Journals.{JournalValue}
use Rattle.dac_crews.specs.Compared.{found, event_one}
use Rattle.dac_crews.specs.declared.phases.Ask.{Ask}
use Rattle.dac_crews.specs.declared.phases.Ask.TheVariants.{Do, Read}
use Rattle.dac_crews.specs.declared.phases.Line.{Line}
use Rattle.dac_crews.specs.declared.phases.Phase.{Phase}
use Rattle.dac_live.specs.declared.report.LineAnswer.{LineAnswer}
use Rattle.dac_live.specs.declared.report.LineAnswer.TheVariants.{Done, Fresh, Stale}
use Rattle.dac_live.specs.Asked.{answer_one}
use Rattle.dac_phases.specs.Asks.{is_of, asks_of}
use Rattle.dac_phases.specs.Pairs.{records_at}

-- ---- the precondition of a run
-- the line is for a node of the configuration, and for a caller from 1 to 4
abbrev pub IsLineOf : ℕ → Line → Type 0
IsLineOf nodes line = (line.node.0 < nodes) × (1 ≤ line.caller) × (line.caller ≤ 4)

-- all lines of the phase are for nodes of the configuration, and for callers from 1 to 4
abbrev pub HasLines : ℕ → Phase → Type 0
HasLines nodes phase = All (IsLineOf nodes) phase.lines.items

-- ---- the results of lines
abbrev pub answer_in : LineAnswer → Option (Result Reply Refusal)
answer_in (Done answer) = Some answer
answer_in Fresh = None
answer_in Stale = None

-- the result of the line, if it calls the node and is this caller's
abbrev pub told_one : ℕ → ℕ → Line × LineAnswer → Option (Result Reply Refusal)
told_one node caller told = if is_of node caller told.0 then answer_in told.1 else None

-- the results of this caller's lines of a phase, in order
abbrev pub told_in : ℕ → ℕ → List Line → List LineAnswer → List (Result Reply Refusal)
told_in node caller lines answers = found (told_one node caller) (zip lines answers)

-- the results of this caller's lines over all phases, in order
abbrev pub told_of : ℕ → ℕ → List Phase → List (List LineAnswer) → List (Result Reply Refusal)
told_of node caller phases answers =
    flat_map (λ (p : Phase × List LineAnswer). told_in node caller p.0.lines.items p.1) (zip phases answers)

-- ---- results of the right kind
-- a line that calls has a reply or refusal, and one that reads has a fresh or a stale page
abbrev pub Answers : Ask → LineAnswer → Type 0
Answers (Do event) (Done answer) = ⊤
Answers (Do event) Fresh = ⊥
Answers (Do event) Stale = ⊥
Answers Read (Done answer) = ⊥
Answers Read Fresh = ⊤
Answers Read Stale = ⊤

-- each line of a phase has a result of its kind
abbrev pub LinesAnswered : List Line → List LineAnswer → Type 0
LinesAnswered lines answers = AllZip (λ (line : Line) (answer : LineAnswer). Answers line.what answer) lines answers

-- each line of each phase has a result of its kind
abbrev pub AreAnswered : List Phase → List (List LineAnswer) → Type 0
AreAnswered phases answers =
    AllZip (λ (p : Phase) (all : List LineAnswer). LinesAnswered p.lines.items all) phases answers

-- ---- the reads left for a caller's lines, the next one last
-- the result of a line that reads, and its page
abbrev pub seen_as : Reading → LineAnswer × Option Page
seen_as (reading.Fresh page) = (Fresh, Some page)
seen_as (reading.Stale page) = (Stale, page)

-- a line that reads takes the next read, or nothing if none is left
abbrev pub HandedReading : List Reading → List Reading → Option (LineAnswer × Option Page) → Type 0
HandedReading reads left None = reads ≡ []
HandedReading reads left (Some told) = (one : Reading) × (reads ≡ left ++ one ∷ []) × (told ≡ seen_as one)

-- a line that calls takes no read
abbrev pub Handed : Ask → List Reading → List Reading → Option (LineAnswer × Option Page) → Type 0
Handed (Do event) reads left told = left ≡ reads
Handed Read reads left told = HandedReading reads left told

-- ---- callers' seats
-- the records of this caller's seat are its lines that call, in order, with the lines' results
pub record CallerHolds (node caller : ℕ) (phases : List Phase) (answers : List (List LineAnswer))
    (records : List Record) : Type 0 where
  pub asked : found (event_one caller) records ≡ asks_of node caller phases
  pub told : found (answer_one caller) records ≡ told_of node caller phases answers

-- the records of all callers of a node are their lines that call, with the lines' results
abbrev pub NodeHolds : ℕ → List Phase → List (List LineAnswer) → List Record → Type 0
NodeHolds node phases answers records =
    (caller : ℕ) → 1 ≤ caller → caller ≤ 4 → CallerHolds node caller phases answers records

-- the records of all callers of all nodes are their lines that call, with the lines' results
abbrev pub CallersHold : List Phase → List (List LineAnswer) → List JournalValue → Type 0
CallersHold phases answers closed =
    (node : ℕ) → node < length closed → NodeHolds node phases answers (records_at closed node)

-- the first node at which a caller's records aren't its lines that call, with the lines' results
pub record IsStrange (node : ℕ) (phases : List Phase) (answers : List (List LineAnswer)) (closed : List JournalValue)
    : Type 0 where
  pub within : node < length closed
  pub strange : NodeHolds node phases answers (records_at closed node) → ⊥
  pub before : (n : ℕ) → n < node → NodeHolds n phases answers (records_at closed n)
