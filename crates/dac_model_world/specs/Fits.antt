-- A running node hears each copy that reaches it as its addressee, and each operation handed to it, unless an
-- allocation fails or its delta numbers are used up.
use Rattle.std.specs.Prelude.{◌≡◌, ◌⊎◌, ◌≤◌, ℕ, ◌+◌, nat_eq, cond, Bool, true, List, [], ◌∷◌, length, Some, Result, Ok, Err}
use Rattle.dac_base.specs.declared.limits.TheConstants.{MAX_COUNTER}
use Rattle.dac_base.specs.declared.NodeId.{NodeId}
use Rattle.dac_operations.specs.Operations.{Operation}
use Rattle.dac_events.specs.declared.WorldEvent.{WorldEvent}
use Rattle.dac_events.specs.declared.What.{What}
use Rattle.dac_events.specs.declared.What.TheVariants.{Deliver, Hand}
use Rattle.dac_messages.specs.declared.reply.Reply.{Reply}
use Rattle.dac_messages.specs.declared.reply.Reply.TheVariants.{Booted, Heard}
use Rattle.dac_events.specs.declared.refusal.Refusal.TheVariants.{DotsUsedUp}
use Rattle.dac_events.specs.declared.world_fault.WorldFault.{WorldFault}
use Rattle.dac_events.specs.declared.world_fault.WorldFault.TheVariants.{Refused}
use Rattle.dac_model_world.specs.ModelWorld.{counted, issued_by, out_of_memory}
use Rattle.dac_model_world.specs.SetWorld.{SetWorld, NodeSet, Copy, is_for, operations_of, set_step}

-- the node has a set: it runs
abbrev pub RunsIn : SetWorld → NodeId → Type 0
RunsIn w n = (held : NodeSet) × (w.node n ≡ Some held)

-- the number of a copy for the node, which isn't bound to another incarnation than the one that runs
pub record IsCopyFor (w : SetWorld) (n : NodeId) (number : ℕ) : Type 0 where
  pub copy : Copy
  pub there : counted w.copies number ≡ Some copy
  pub fits : (held : NodeSet) → w.node n ≡ Some held → is_for n held.inc copy ≡ true

-- the event brings the node such a copy, or an issued operation
abbrev pub Fits : SetWorld → NodeId → What → Type 0
Fits w n (Deliver k) = IsCopyFor w n k
Fits w n (Hand k) = (o : Operation) × (counted (operations_of w.issued) k ≡ Some o)
Fits w n _ = ⊥

-- the result says that the event was heard
abbrev pub IsHeard : Result Reply WorldFault → Type 0
IsHeard a = (fresh : Bool) × (a ≡ Ok (Heard fresh))

-- The number of a node's deltas after a result. A boot begins with one. Each operation issued adds one, and so does
-- hearing anything new.
abbrev pub deltas_after : ℕ → Result Reply WorldFault → ℕ
deltas_after before (Err fault) = before
deltas_after before (Ok (Booted o)) = 1
deltas_after before (Ok (Heard fresh)) = cond fresh (before + 1) before
deltas_after before (Ok reply) = before + length (issued_by reply)

-- the number of each node's deltas after a result of node n
abbrev pub deltas_with : (NodeId → ℕ) → NodeId → Result Reply WorldFault → NodeId → ℕ
deltas_with deltas n a m = cond (nat_eq m.0 n.0) (deltas_after (deltas n) a) (deltas m)

-- no node has deltas
abbrev pub no_deltas : NodeId → ℕ
no_deltas n = 0

-- the result says that the delta numbers are used up, and they are
abbrev pub IsFull : ℕ → Result Reply WorldFault → Type 0
IsFull deltas a = (a ≡ Err (Refused DotsUsedUp)) × (MAX_COUNTER ≤ deltas)

-- a running node hears what fits it, unless an allocation fails or its delta numbers are used up
abbrev pub HearsWhatFits : SetWorld → (NodeId → ℕ) → WorldEvent → Result Reply WorldFault → Type 0
HearsWhatFits w deltas e a =
    RunsIn w e.node → Fits w e.node e.what → IsHeard a ⊎ ((a ≡ out_of_memory) ⊎ IsFull (deltas e.node) a)

-- in all these events running nodes hear what fits them; nodes begin with these numbers of deltas
abbrev pub HearsAllThatFits : SetWorld → (NodeId → ℕ) → List WorldEvent → List (Result Reply WorldFault) → Type 0
HearsAllThatFits w deltas [] answers = Unit {0}
HearsAllThatFits w deltas (e ∷ es) [] = Unit {0}
HearsAllThatFits w deltas (e ∷ es) (a ∷ answers) =
    HearsWhatFits w deltas e a × HearsAllThatFits (set_step w e.node e.what a) (deltas_with deltas e.node a) es answers
