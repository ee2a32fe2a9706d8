-- Ships send the sender's whole set, and deliveries unite the receiver's set with it, whatever part of it a message
-- carries.
use Rattle.std.specs.Prelude.{◌≡◌, ℕ, true, List, [], ◌∷◌, ◌++◌, Some, Result, Ok}
use Rattle.dac_base.specs.declared.NodeId.{NodeId}
use Rattle.dac_operations.specs.Operations.{Operation}
use Rattle.dac_events.specs.declared.WorldEvent.{WorldEvent}
use Rattle.dac_events.specs.declared.What.{What}
use Rattle.dac_events.specs.declared.What.TheVariants.{Deliver, Hand}
use Rattle.dac_messages.specs.declared.message.Message.{Message}
use Rattle.dac_messages.specs.declared.reply.Reply.{Reply}
use Rattle.dac_messages.specs.declared.reply.Reply.TheVariants.{Shipped, Heard}
use Rattle.dac_events.specs.declared.world_fault.WorldFault.{WorldFault}
use Rattle.dac_model_world.specs.ModelWorld.{counted}
use Rattle.dac_model_world.specs.SetWorld.{SetWorld, NodeSet, Copy, and_more, is_for, operations_of, set_step}

-- Node n runs, and a copy of its whole set is added after all others, addressed and bound as the message
pub record IsPut (w : SetWorld) (n : NodeId) (m : Message) (next : SetWorld) : Type 0 where
  pub held : NodeSet
  pub on : w.node n ≡ Some held
  pub after : next.copies
      ≡ w.copies ++ (record { from = n; to = m.to; only = m.only; operations = held.operations }) ∷ []

-- node n runs, this copy is for it, and its set is united with the copy's
pub record IsUnited (w : SetWorld) (n : NodeId) (number : ℕ) (next : SetWorld) : Type 0 where
  pub held : NodeSet
  pub on : w.node n ≡ Some held
  pub copy : Copy
  pub there : counted w.copies number ≡ Some copy
  pub fits : is_for n held.inc copy ≡ true
  pub after : next.node n ≡ Some (and_more held copy.operations)

-- node n runs, and its set is united with this issued operation
pub record IsHanded (w : SetWorld) (n : NodeId) (number : ℕ) (next : SetWorld) : Type 0 where
  pub held : NodeSet
  pub on : w.node n ≡ Some held
  pub operation : Operation
  pub there : counted (operations_of w.issued) number ≡ Some operation
  pub after : next.node n ≡ Some (and_more held (operation ∷ []))

-- the effect of an event that is heard: only deliveries and handings are
abbrev pub HearsSo : SetWorld → NodeId → What → SetWorld → Type 0
HearsSo w n (Deliver k) next = IsUnited w n k next
HearsSo w n (Hand k) next = IsHanded w n k next
HearsSo w n _ next = ⊥

-- an accepted ship adds a copy of the whole set, and hearing unites sets
abbrev pub Unites : SetWorld → NodeId → What → Result Reply WorldFault → Type 0
Unites w n what (Ok (Shipped m)) = IsPut w n m (set_step w n what (Ok (Shipped m)))
Unites w n what (Ok (Heard fresh)) = HearsSo w n what (set_step w n what (Ok (Heard fresh)))
Unites w n what _ = Unit {0}

-- each ship among these events adds a copy of the whole set, and each hear unites sets
abbrev pub AllUnite : SetWorld → List WorldEvent → List (Result Reply WorldFault) → Type 0
AllUnite w [] answers = Unit {0}
AllUnite w (e ∷ es) [] = Unit {0}
AllUnite w (e ∷ es) (a ∷ answers) = Unites w e.node e.what a × AllUnite (set_step w e.node e.what a) es answers
