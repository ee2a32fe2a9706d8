-- Cursors, and the world event that is a node's event.
use Rattle.std.specs.Prelude.{◌≡◌, ℕ, ◌≤◌, ◌<◌, ◌⊎◌, List, [], MatchOption, Option, Result, Ok, Err}
use Rattle.dac_config.specs.Table.{Table}
use Rattle.dac_messages.specs.declared.event.Event.{Event}
use Rattle.dac_messages.specs.declared.reply.Reply.{Reply}
use Rattle.dac_events.specs.declared.refusal.Refusal.{Refusal}
use Rattle.dac_events.specs.declared.What.{What}
use Rattle.dac_messages.specs.declared.message.Message.{Message}
use Rattle.dac_operations.specs.Operations.{Operation}
use Rattle.dac_journal.specs.ModelWorld.{event_of, issued_by, shipped_by}
use Rattle.dac_weave.specs.declared.cursor.Cursor.{Cursor}
use Rattle.dac_journal.specs.Journals.{JournalValue}
use Rattle.dac_weave.specs.Woven.{At}
use Rattle.dac_weave.specs.Replay.{IsLongest}

-- the cursor of a journal with no record placed
pub record Begins (t : Table) (j : JournalValue) (s : Cursor) : Type 0 where
  pub placed : s.placed ≡ 0
  pub longest : IsLongest t j s.valid

-- found is the world event that is e at its node, if there is one
abbrev pub Names : List Operation → List Message → Event → Option What → Type 0
Names os ms e found =
    MatchOption found ((what : What) → event_of os ms what ≡ Ok e → ⊥) (λ what. event_of os ms what ≡ Ok e)

-- no world event is e at its node
abbrev pub IsUnnamed : List Operation → List Message → Event → Type 0
IsUnnamed os ms e = (what : What) → event_of os ms what ≡ Ok e → ⊥

-- the operations issued, and the messages shipped, by a record's result
abbrev pub issued_in : Result Reply Refusal → List Operation
issued_in (Ok reply) = issued_by reply
issued_in (Err why) = []

abbrev pub shipped_in : Result Reply Refusal → List Message
shipped_in (Ok reply) = shipped_by reply
shipped_in (Err why) = []

-- r is whichever of k and i has the lesser node; k if they are equal
pub record IsLesser (js : List JournalValue) (k i r : ℕ) : Type 0 where
  pub cases : (a b : JournalValue) → At js k a → At js i b
      → ((r ≡ k) × (a.beginning.node.0 ≤ b.beginning.node.0)) ⊎ ((r ≡ i) × (b.beginning.node.0 < a.beginning.node.0))
