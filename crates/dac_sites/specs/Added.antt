-- The effect of a call on a journal and on a seat, by its result.
use Rattle.std.specs.Prelude.{◌≡◌, ◌≢◌, ⊤, ℕ, ◌+◌, List, [], ◌∷◌, ◌++◌, length, Result, Err}
use Rattle.dac_messages.specs.declared.event.Event.{Event}
use Rattle.dac_messages.specs.declared.reply.Reply.{Reply}
use Rattle.dac_events.specs.declared.refusal.Refusal.{Refusal}
use Rattle.dac_events.specs.declared.refusal.Refusal.TheVariants.{NoMemory as WantOfMemory}
use Rattle.dac_journal.specs.declared.record.Record.{Record}
use Rattle.dac_journal.specs.declared.record.Call.{Call}
use Rattle.dac_sites.specs.declared.faults.LiveFault.{LiveFault}
use Rattle.dac_sites.specs.declared.faults.LiveFault.TheVariants.{JournalFull, Refused, NoMemory}
use Rattle.dac_journal.specs.Journals.{record_of, call_of}

-- the record of this result, at this place, is all that was appended
abbrev pub Added : List Record → List Record → ℕ → Event → ℕ → Result Reply Refusal → Type 0
Added old new seat event place answer = (new ≡ old ++ record_of seat event answer ∷ []) × (place ≡ length old + 1)

-- a refusal of the node is recorded; a failed allocation and a full journal leave no record
abbrev pub AddedRefused : LiveFault → List Record → List Record → ℕ → Event → Type 0
AddedRefused JournalFull old new seat event = new ≡ old
AddedRefused (Refused place why) old new seat event = Added old new seat event place (Err why) × (why ≢ WantOfMemory)
AddedRefused NoMemory old new seat event = new ≡ old

-- the call with this result is all that the seat gained
abbrev pub CallAdded : List Call → List Call → ℕ → Event → Result Reply Refusal → Type 0
CallAdded old new place event answer = new ≡ old ++ call_of place event answer ∷ []

abbrev pub CallRefused : LiveFault → List Call → List Call → Event → Type 0
CallRefused JournalFull old new event = new ≡ old
CallRefused (Refused place why) old new event = CallAdded old new place event (Err why) × (why ≢ WantOfMemory)
CallRefused NoMemory old new event = new ≡ old

-- P holds if the fault is a refusal of the node, which is recorded
abbrev pub WhereRecorded : LiveFault → Type 0 → Type 0
WhereRecorded JournalFull P = ⊤
WhereRecorded (Refused place why) P = P
WhereRecorded NoMemory P = ⊤

-- P holds if the fault left no record
abbrev pub UnlessRecorded : LiveFault → Type 0 → Type 0
UnlessRecorded JournalFull P = P
UnlessRecorded (Refused place why) P = ⊤
UnlessRecorded NoMemory P = P
