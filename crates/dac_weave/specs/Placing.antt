-- The invariant of the merge, and its steps.
use Rattle.std.specs.Prelude.{◌≡◌, ℕ, ◌+◌, ◌<◌, ◌≤◌, ◌⊎◌, List, [], ◌∷◌, ◌++◌, length, take, set, map, min, Ok}
use Rattle.std.specs.List.{AllZip}
use Rattle.dac_base.specs.declared.NodeId.{NodeId}
use Rattle.dac_config.specs.Table.{Table}
use Rattle.dac_events.specs.declared.What.{What}
use Rattle.dac_events.specs.declared.WorldEvent.{WorldEvent}
use Rattle.dac_journal.specs.ModelWorld.{start, event_of}
use Rattle.dac_journal.specs.declared.record.Record.{Record}
use Rattle.dac_weave.specs.declared.cursor.Cursor.{Cursor}
use Rattle.dac_weave.specs.declared.merge.Merge.{Merge}
use Rattle.dac_journal.specs.Journals.{JournalValue}
use Rattle.dac_weave.specs.Cut.{cut}
use Rattle.dac_weave.specs.Mails.{IsNoMail, IsProper, Delivers}
use Rattle.dac_weave.specs.Seats.{seats_at, seats_of}
use Rattle.dac_weave.specs.Woven.{journal_seen, At, HasNone, IsFirst, seen_in}
use Rattle.dac_journal.specs.EveryList.{run_from}
use Rattle.dac_weave.specs.Replay.{IsLongest}
use Rattle.dac_weave.specs.Names.{Begins, IsUnnamed, issued_in, shipped_in}

-- how many records agree with the replay of the node; the journal may be cut, and the cursor is that of the whole one
abbrev pub reach : JournalValue → Cursor → ℕ
reach j s = min s.valid (length j.records)

-- every placed record agrees with the replay of its node
pub record IsCursor (t : Table) (j : JournalValue) (s : Cursor) : Type 0 where
  pub placed : s.placed ≤ reach j s
  pub longest : IsLongest t j (reach j s)

-- there is a cursor for each journal
abbrev pub HaveCursors : List JournalValue → List Cursor → Type 0
HaveCursors js ss = length ss ≡ length js

-- The invariant: the run of the events placed so far reproduces exactly the placed records, and issues the operations
-- and messages of the merge.
pub record Weaves (t : Table) (js : List JournalValue) (l : Merge) : Type 0 where
  pub count : length l.cursors.items ≡ length js
  pub cursors : (i : ℕ) (j : JournalValue) (s : Cursor) → At js i j → At l.cursors.items i s → IsCursor t j s
  pub seen : (i : ℕ) (j : JournalValue) (s : Cursor) → At js i j → At l.cursors.items i s
      → seen_in t l.events.items j.beginning.node ≡ take s.placed (journal_seen j)
  pub others : (n : NodeId) → HasNone js n → seen_in t l.events.items n ≡ []
  pub many : length l.seats.items ≡ length l.events.items
  pub seats : (i : ℕ) (j : JournalValue) (s : Cursor) → At js i j → At l.cursors.items i s
      → seats_at j.beginning.node l.events.items l.seats.items ≡ take s.placed (seats_of j)
  pub operations : l.operations ≡ (run_from t (start t) l.events.items).operations
  pub messages : l.mail.shipped ≡ (run_from t (start t) l.events.items).messages
  pub delivers : Delivers t l.mail l.events.items

-- the world event `what` can place the next record of the i-th journal
pub record CanBePlaced (js : List JournalValue) (l : Merge) (i : ℕ) (what : What) : Type 0 where
  pub journal : JournalValue
  pub cursor : Cursor
  pub next : Record
  pub at : At js i journal
  pub cursor_at : At l.cursors.items i cursor
  pub left : cursor.placed < reach journal cursor
  pub next_at : At journal.records cursor.placed next
  pub named : event_of l.operations l.mail.shipped what ≡ Ok next.event
  pub proper : IsProper l.mail what

-- the next record of the i-th journal can't be placed
pub record IsBlocked (js : List JournalValue) (l : Merge) (i : ℕ) : Type 0 where
  pub journal : JournalValue
  pub cursor : Cursor
  pub at : At js i journal
  pub cursor_at : At l.cursors.items i cursor
  pub cause : (reach journal cursor ≤ cursor.placed)
      ⊎ ((r : Record) × (At journal.records cursor.placed r × IsUnnamed l.operations l.mail.shipped r.event))

abbrev pub AllBlocked : List JournalValue → Merge → Type 0
AllBlocked js l = (i : ℕ) → i < length js → IsBlocked js l i

-- no journal from low up to high can place its next record
abbrev pub BlockedBetween : List JournalValue → Merge → ℕ → ℕ → Type 0
BlockedBetween js l low high = (i : ℕ) → low ≤ i → i < high → IsBlocked js l i

-- the cursor after one more record
abbrev pub longer : Cursor → Cursor
longer s = record { placed = s.placed + 1; valid = s.valid }

-- record r of the i-th journal is placed as the world event `what`
pub record PlacesRecord (old : Merge) (i : ℕ) (what : What) (new : Merge) (j : JournalValue) (s : Cursor)
    (r : Record) : Type 0 where
  pub cursors : new.cursors.items ≡ set old.cursors.items i (longer s)
  pub events : new.events.items ≡ old.events.items ++ (record { node = j.beginning.node; what = what }) ∷ []
  pub seats : new.seats.items ≡ old.seats.items ++ r.seat ∷ []
  pub operations : new.operations ≡ old.operations ++ issued_in r.answer
  pub messages : new.mail.shipped ≡ old.mail.shipped ++ shipped_in r.answer

-- the next record of the i-th journal is placed as the world event `what`
pub record Places (js : List JournalValue) (old : Merge) (i : ℕ) (what : What) (new : Merge) : Type 0 where
  pub each : (j : JournalValue) (s : Cursor) (r : Record) → At js i j → At old.cursors.items i s
      → At j.records s.placed r → PlacesRecord old i what new j s r

-- some record of the i-th journal isn't placed
abbrev pub IsLeft : List Cursor → ℕ → JournalValue → Type 0
IsLeft ss i j = (s : Cursor) × (At ss i s × (s.placed < length j.records))

-- node is the least one whose journal isn't placed whole, and place the position of its first unplaced record, from 1
pub record IsLeftAt (js : List JournalValue) (ss : List Cursor) (node : NodeId) (place : ℕ) : Type 0 where
  pub index : ℕ
  pub journal : JournalValue
  pub cursor : Cursor
  pub first : IsFirst js (IsLeft ss) index journal
  pub cursor_at : At ss index cursor
  pub node_is : journal.beginning.node ≡ node
  pub place_is : cursor.placed + 1 ≡ place

-- every journal is placed whole
abbrev pub AllWhole : List JournalValue → List Cursor → Type 0
AllWhole js ss = (i : ℕ) (j : JournalValue) → At js i j → IsLeft ss i j → ⊥

-- ---- phases
-- no record is placed
pub record IsBegun (t : Table) (js : List JournalValue) (l : Merge) : Type 0 where
  pub cursors : AllZip (Begins t) js l.cursors.items
  pub events : l.events.items ≡ []
  pub seats : l.seats.items ≡ []
  pub operations : l.operations ≡ []
  pub mail : IsNoMail l.mail

abbrev pub valids_of : List Cursor → List ℕ
valids_of ss = map (λ (s : Cursor). s.valid) ss

-- events are only appended, and the valid prefixes stay
pub record Continues (old new : Merge) : Type 0 where
  pub valid : valids_of new.cursors.items ≡ valids_of old.cursors.items
  pub more : List WorldEvent
  pub events : new.events.items ≡ old.events.items ++ more

-- Between two phases: exactly the records up to the row are placed, and they agree with the replay.
pub record Rests (t : Table) (js : List JournalValue) (row : List ℕ) (l : Merge) : Type 0 where
  pub long : length row ≡ length js
  pub count : length l.cursors.items ≡ length js
  pub longest : (i : ℕ) (j : JournalValue) (s : Cursor) → At js i j → At l.cursors.items i s → IsLongest t j s.valid
  pub valid : (i : ℕ) (s : Cursor) → At l.cursors.items i s → s.placed ≤ s.valid
  pub placed : (i : ℕ) (j : JournalValue) (s : Cursor) → At (cut js row) i j → At l.cursors.items i s
      → s.placed ≡ length j.records
  pub seen : (i : ℕ) (j : JournalValue) → At (cut js row) i j → seen_in t l.events.items j.beginning.node ≡ journal_seen j
  pub others : (n : NodeId) → HasNone js n → seen_in t l.events.items n ≡ []
  pub many : length l.seats.items ≡ length l.events.items
  pub seats : (i : ℕ) (j : JournalValue) → At (cut js row) i j
      → seats_at j.beginning.node l.events.items l.seats.items ≡ seats_of j
  pub operations : l.operations ≡ (run_from t (start t) l.events.items).operations
  pub messages : l.mail.shipped ≡ (run_from t (start t) l.events.items).messages
  pub delivers : Delivers t l.mail l.events.items

-- the records up to an earlier row are placed
pub record PrecedesRow (t : Table) (js : List JournalValue) (row : List ℕ) (l : Merge) : Type 0 where
  pub before : List ℕ
  pub rests : Rests t js before l
  pub rise : AllZip (λ (m n : ℕ). m ≤ n) before row
