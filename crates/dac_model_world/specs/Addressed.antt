-- Ships send messages to the nodes that they name.
use Rattle.std.specs.Prelude.{◌≡◌, List, [], ◌∷◌, Result, Ok, Err}
use Rattle.dac_base.specs.declared.NodeId.{NodeId}
use Rattle.dac_events.specs.declared.WorldEvent.{WorldEvent}
use Rattle.dac_events.specs.declared.What.TheVariants.{Ship as Ships}
use Rattle.dac_messages.specs.declared.reply.Reply.{Reply}
use Rattle.dac_messages.specs.declared.reply.Reply.TheVariants.{Shipped}
use Rattle.dac_events.specs.declared.world_fault.WorldFault.{WorldFault}

-- A message is the result of a ship, at the node that it is from, to the node that it is for. An accepted ship has no
-- other result.
abbrev pub IsAddressed : WorldEvent → Result Reply WorldFault → Type 0
IsAddressed e (Err fault) = Unit {0}
IsAddressed e (Ok (Shipped m)) = (e.what ≡ Ships m.to) × (m.from.node ≡ e.node)
IsAddressed e (Ok _) = (to : NodeId) → ¬ (e.what ≡ Ships to)

-- the messages of all these events go to the nodes that the ships name
abbrev pub AreAddressed : List WorldEvent → List (Result Reply WorldFault) → Type 0
AreAddressed [] answers = Unit {0}
AreAddressed (e ∷ es) [] = Unit {0}
AreAddressed (e ∷ es) (a ∷ answers) = IsAddressed e a × AreAddressed es answers
