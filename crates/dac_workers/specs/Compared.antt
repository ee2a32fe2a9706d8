-- A link, by the records of the journals at its ends.
use Rattle.std.specs.Prelude.{◌≡◌, ℕ, ◌==◌, ◌*◌, List, [], ◌∷◌, map, Option, Some, None, Result, Ok, Err, if◌then◌else◌}
use Rattle.dac_base.specs.declared.NodeId.{NodeId}
use Rattle.dac_messages.specs.declared.event.Event.{Event}
use Rattle.dac_messages.specs.declared.event.Event.TheVariants.{Hear}
use Rattle.dac_messages.specs.declared.message.Message.{Message}
use Rattle.dac_messages.specs.declared.reply.Reply.{Reply}
use Rattle.dac_messages.specs.declared.reply.Reply.TheVariants as reply
use Rattle.dac_events.specs.declared.refusal.Refusal.{Refusal}
use Rattle.dac_sites.specs.Record.{Record}
use Rattle.dac_workers.specs.Links.{ships_to}

-- a value, if there is one, in front of a list
abbrev pub before : {B : Type 0} → Option B → List B → List B
before None ys = ys
before (Some y) ys = y ∷ ys

module _ {A B : Type 0} where
  -- the values found in these elements, in order
  abbrev pub found : (A → Option B) → List A → List B
  found f [] = []
  found f (x ∷ xs) = before (f x) (found f xs)

-- the message of a reply that ships
abbrev pub shipped_in : Result Reply Refusal → Option Message
shipped_in (Ok (reply.Booted op)) = None
shipped_in (Ok reply.Crashed) = None
shipped_in (Ok (reply.Issued op)) = None
shipped_in (Ok (reply.Ticked ops passed)) = None
shipped_in (Ok reply.Held) = None
shipped_in (Ok reply.GaveUp) = None
shipped_in (Ok (reply.Shipped message)) = Some message
shipped_in (Ok (reply.Heard new)) = None
shipped_in (Err why) = None

-- the message that this seat's record ships, if it is one
abbrev pub sent_one : ℕ → Record → Option Message
sent_one seat r = if r.seat == seat then shipped_in r.answer else None

abbrev pub event_one : ℕ → Record → Option Event
event_one seat r = if r.seat == seat then Some r.event else None

-- Over this many phases, the link worker's seat heard exactly the messages that the shipper's seat shipped, in order
-- and each once; and the shipper's seat shipped to the node five times a phase, and did nothing else.
pub record Linked (phases : ℕ) (to : NodeId) (shipper worker : ℕ) (sender receiver : List Record) : Type 0 where
  pub same : found (event_one worker) receiver ≡ map Hear (found (sent_one shipper) sender)
  pub ships : found (event_one shipper) sender ≡ ships_to to (5 * phases)
