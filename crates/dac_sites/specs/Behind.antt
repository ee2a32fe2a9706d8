-- The journal behind a site's lock, as far as its callers can tell: because the lock hides it, it is some history of
-- the node since the site's beginning.
use Rattle.std.specs.Prelude.{◌≡◌, ◌≢◌, ◌⊎◌, ◌+◌, ◌<◌, ⊤, ℕ, suc, List, [], ◌∷◌, ◌++◌, length, All, Result, Err}
use Rattle.dac_messages.specs.declared.event.Event.{Event}
use Rattle.dac_messages.specs.declared.reply.Reply.{Reply}
use Rattle.dac_events.specs.declared.refusal.Refusal.{Refusal}
use Rattle.dac_journal.specs.declared.limits.TheConstants.{MAX_RECORDS}
use Rattle.dac_journal.specs.declared.record.Record.{Record}
use Rattle.dac_sites.specs.declared.faults.LiveFault.{LiveFault}
use Rattle.dac_sites.specs.declared.faults.LiveFault.TheVariants.{JournalFull, Refused, NoMemory}
use Rattle.dac_sites.specs.declared.faults.CloseFault.{CloseFault}
use Rattle.dac_sites.specs.declared.faults.CloseFault.TheVariants.{SeatMissing, Mismatch}
use Rattle.dac_journal.specs.Journals.{Beginning, AreHistory, record_of, calls_of, DifferAt}
use Rattle.dac_sites.specs.Seats.{SeatValue, IsOneOf}

-- ---- at a call
-- the journal wasn't full, and the call appended a record of this result, at this place
pub record WentOn (o : Beginning) (seat : ℕ) (event : Event) (place : ℕ) (answer : Result Reply Refusal) : Type 0 where
  pub before : List Record
  pub history : AreHistory o (before ++ record_of seat event answer ∷ [])
  pub next : place ≡ length before + 1
  pub room : length before < MAX_RECORDS

-- the journal stayed as it was, with this number of records
pub record Stayed (o : Beginning) (HasCount : ℕ → Type 0) : Type 0 where
  pub records : List Record
  pub history : AreHistory o records
  pub count : HasCount (length records)

-- the journal at a call that returns no receipt
abbrev pub NotTaken : LiveFault → Beginning → ℕ → Event → Type 0
NotTaken JournalFull o seat event = Stayed o (λ n. n ≡ MAX_RECORDS)
NotTaken (Refused place why) o seat event = WentOn o seat event place (Err why)
NotTaken NoMemory o seat event = Stayed o (λ n. n < MAX_RECORDS)

-- ---- at closing
-- the first of these seats that doesn't match: its calls first differ from its records at this place
abbrev pub SeatDiffers : ℕ → List Record → List SeatValue → Type 0
SeatDiffers p rs [] = ⊥
SeatDiffers p rs (s ∷ ss) =
    DifferAt p (calls_of s.number rs) s.calls ⊎ ((calls_of s.number rs ≡ s.calls) × SeatDiffers p rs ss)

-- the place of the first record that belongs to none of these seats; the first of the records has the place `at`
abbrev pub FirstUnseated : ℕ → ℕ → List SeatValue → List Record → Type 0
FirstUnseated p at seats [] = ⊥
FirstUnseated p at seats (r ∷ rs) =
    (All (λ s. s.number ≢ r.seat) seats × (p ≡ at)) ⊎ (IsOneOf r.seat (λ s. s.number) seats × FirstUnseated p (suc at) seats rs)

-- the journal and the seats don't match, first at this place; seats are compared before records of no seat are looked
-- for
pub record DontMatch (o : Beginning) (seats : List SeatValue) (p : ℕ) : Type 0 where
  pub records : List Record
  pub history : AreHistory o records
  pub apart : SeatDiffers p records seats
      ⊎ (All (λ s. calls_of s.number records ≡ s.calls) seats × FirstUnseated p 1 seats records)

-- the journal and the seats when closing fails
abbrev pub NotClosed : CloseFault → Beginning → List SeatValue → Type 0
NotClosed SeatMissing o seats = ⊤
NotClosed (Mismatch place) o seats = DontMatch o seats place
