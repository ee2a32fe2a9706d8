-- A start gate that has opened stays open until its node goes off: by the results of a history, and of a run.
use Rattle.std.specs.Prelude.{◌≡◌, List, [], ◌∷◌, Result}
use Rattle.dac_base.specs.declared.NodeId.{NodeId}
use Rattle.dac_config.specs.Table.{Table}
use Rattle.dac_messages.specs.declared.event.Event.{Event}
use Rattle.dac_messages.specs.declared.reply.Reply.{Reply}
use Rattle.dac_events.specs.declared.WorldEvent.{WorldEvent}
use Rattle.dac_events.specs.declared.world_fault.WorldFault.{WorldFault}
use Rattle.dac_model_node.specs.Gates.{SaysOpen, SaysShut, SaysOff, Answers}
use Rattle.dac_model_node.specs.ModelNode.{ModelNode}
use Rattle.dac_model_node.specs.Step.{model_step}
use Rattle.dac_model_world.specs.Histories.{Entry, IsHistory}

-- ---- at one node

-- none of these events turns the node off
abbrev pub NoneGoesOff : List Entry → Type 0
NoneGoesOff [] = Unit {0}
NoneGoesOff (x ∷ xs) = (¬ (Answers SaysOff x.answer)) × NoneGoesOff xs

-- After a tick finds a start gate open, no tick is held back or gives up until the node goes off.
abbrev pub GatesStayOpen : Type 0
GatesStayOpen = (t : Table) (me : NodeId) (d final : ModelNode) (e later : Event) (between : List Entry)
    → Answers SaysOpen (model_step t me d e).answer
    → IsHistory t me (model_step t me d e).node between final → NoneGoesOff between
    → ¬ (Answers SaysShut (model_step t me final later).answer)

-- ---- in a run

-- no event of the node finds its start gate shut, up to the first event that turns it off
abbrev pub IsOpenUntilOff : NodeId → List WorldEvent → List (Result Reply WorldFault) → Type 0
IsOpenUntilOff n [] answers = Unit {0}
IsOpenUntilOff n (e ∷ es) [] = Unit {0}
IsOpenUntilOff n (e ∷ es) (a ∷ answers) = (e.node ≡ n → ¬ (Answers SaysShut a))
    × ((e.node ≡ n → ¬ (Answers SaysOff a)) → IsOpenUntilOff n es answers)

-- after each tick that finds a node's start gate open, it stays open until the node goes off
abbrev pub StayOpen : List WorldEvent → List (Result Reply WorldFault) → Type 0
StayOpen [] answers = Unit {0}
StayOpen (e ∷ es) [] = Unit {0}
StayOpen (e ∷ es) (a ∷ answers) = (Answers SaysOpen a → IsOpenUntilOff e.node es answers) × StayOpen es answers
