-- Causal order of operations, and its consequences for each controller. (Causal order is after Lamport; maximal writes
-- are after replicated data types that keep concurrent writes.)
use Rattle.std.specs.Prelude.{◌≡◌, ◌⊎◌, ◌↔◌, ℕ, List, [], ◌∷◌, Some, Result, Ok}
use Rattle.dac_base.specs.declared.NodeId.{NodeId}
use Rattle.dac_origins.specs.declared.dot.Dot.{Dot}
use Rattle.dac_origins.specs.declared.dot.Origin.{Origin}
use Rattle.dac_origins.specs.Dots.{IsVector}
use Rattle.dac_wishes.specs.declared.key.Key.{Key}
use Rattle.dac_wishes.specs.DrainsValue.{origin}
use Rattle.dac_operations.specs.declared.act.Act.{Act}
use Rattle.dac_operations.specs.declared.act.Act.TheVariants.{Permit, Start, Stop, Drain}
use Rattle.dac_operations.specs.Operations.{Operation}
use Rattle.dac_meaning.specs.StateValue.{StateValue}
use Rattle.dac_meaning.specs.Meaning.{IsOperationOf}
use Rattle.dac_commands.specs.Written.{PermitStands, StartStands, DrainStands}
use Rattle.dac_events.specs.declared.WorldEvent.{WorldEvent}
use Rattle.dac_events.specs.declared.What.{What}
use Rattle.dac_events.specs.declared.What.TheVariants.{Hand}
use Rattle.dac_messages.specs.declared.reply.Reply.{Reply}
use Rattle.dac_events.specs.declared.world_fault.WorldFault.{WorldFault}
use Rattle.dac_model_world.specs.WorldValue.{WorldValue}
use Rattle.dac_model_world.specs.ModelWorld.{numbered}
use Rattle.dac_model_world.specs.SetWorld.{SetWorld, NodeSet, Issue}
use Rattle.dac_model_world.specs.Convergence.{RunsWith}

-- ---- causal order
-- i is one of the issues
abbrev pub IsAmong : Issue → List Issue → Type 0
IsAmong i [] = ⊥
IsAmong i (j ∷ js) = (i ≡ j) ⊎ IsAmong i js

-- a was in the issuer's set when b was issued
pub record IsCausallyBefore (w : SetWorld) (a b : Operation) : Type 0 where
  pub issue : Issue
  pub issued : IsAmong issue w.issued
  pub is : issue.operation ≡ b
  pub held : IsOperationOf a issue.before

-- the operations contain, with each of them, all that were causally before it
abbrev pub IsClosed : SetWorld → List Operation → Type 0
IsClosed w os = (a b : Operation) → IsOperationOf b os → IsCausallyBefore w a b → IsOperationOf a os

-- ---- maximal writes
-- the act is a permit of the key
abbrev pub IsPermitOf : Key → Act → Type 0
IsPermitOf key (Permit k value over) = k ≡ key
IsPermitOf key _ = ⊥

-- the act is a start of the key
abbrev pub IsStartOf : Key → Act → Type 0
IsStartOf key (Start k over) = k ≡ key
IsStartOf key _ = ⊥

-- the act is a stop of the key
abbrev pub IsStopOf : Key → Act → Type 0
IsStopOf key (Stop k over) = k ≡ key
IsStopOf key _ = ⊥

-- the act starts or ends a drain of the incarnation
abbrev pub IsDrainOf : Origin → Act → Type 0
IsDrainOf at (Drain node inc value over) = origin node inc ≡ at
IsDrainOf at _ = ⊥

-- one of the operations is such a write, and none of them that ends it comes causally after it
pub record IsMaximal (Writes Ends : Act → Type 0) (w : SetWorld) (os : List Operation) (o : Operation) : Type 0 where
  pub there : IsOperationOf o os
  pub writes : Writes o.act
  pub last : (later : Operation) → IsOperationOf later os → Ends later.act → ¬ (IsCausallyBefore w o later)

-- a permit of the key after which no permit of the key comes
abbrev pub IsMaximalPermit : SetWorld → List Operation → Key → Operation → Type 0
IsMaximalPermit w os key o = IsMaximal (IsPermitOf key) (IsPermitOf key) w os o

-- the act ends starts of the key: it is a start or a stop of it
abbrev pub EndsStart : Key → Act → Type 0
EndsStart key act = IsStartOf key act ⊎ IsStopOf key act

-- a start of the key after which no start and no stop of the key comes
abbrev pub IsMaximalStart : SetWorld → List Operation → Key → Operation → Type 0
IsMaximalStart w os key o = IsMaximal (IsStartOf key) (EndsStart key) w os o

-- a drain of the incarnation after which no drain of it comes
abbrev pub IsMaximalDrain : SetWorld → List Operation → Origin → Operation → Type 0
IsMaximalDrain w os at o = IsMaximal (IsDrainOf at) (IsDrainOf at) w os o

-- an operation with this property has this dot
abbrev pub IsDotOfOne : (Operation → Type 0) → Dot → Type 0
IsDotOfOne Is d = (o : Operation) × (Is o × (o.dot ≡ d))

-- ---- runs
-- the event isn't an accepted handing of a single operation
abbrev pub IsNoHanding : What → Result Reply WorldFault → Type 0
IsNoHanding (Hand k) (Ok reply) = ⊥
IsNoHanding _ _ = Unit {0}

-- no single operation was handed and accepted
abbrev pub HandsNothing : List WorldEvent → List (Result Reply WorldFault) → Type 0
HandsNothing [] answers = Unit {0}
HandsNothing (e ∷ es) [] = Unit {0}
HandsNothing (e ∷ es) (a ∷ answers) = IsNoHanding e.what a × HandsNothing es answers

-- node n of the program's world runs with this state, and holds this set in the world of sets
pub record RunsHolding (v : WorldValue) (sets : SetWorld) (n : ℕ) (s : StateValue) (held : NodeSet) : Type 0 where
  pub runs : RunsWith v n s
  pub holds : sets.node (numbered n) ≡ Some held

-- Each node's set is causally closed. A running node has heard the dots of each origin from 1 without gaps, and knows
-- no other dots. The writes that stand at a key are exactly the maximal writes of the key, and the drains that stand
-- are the maximal drains.
pub record IsCausal (v : WorldValue) (sets : SetWorld) : Type 0 where
  pub closed : (n : NodeId) (held : NodeSet) → sets.node n ≡ Some held → IsClosed sets held.operations
  pub vector : (n : ℕ) (s : StateValue) → RunsWith v n s → IsVector s.heard
  pub known : (n : ℕ) (s : StateValue) → RunsWith v n s → s.heard ≡ s.known
  pub permits : (n : ℕ) (s : StateValue) (held : NodeSet) → RunsHolding v sets n s held → (key : Key) (d : Dot)
      → PermitStands s key d ↔ IsDotOfOne (IsMaximalPermit sets held.operations key) d
  pub starts : (n : ℕ) (s : StateValue) (held : NodeSet) → RunsHolding v sets n s held → (key : Key) (d : Dot)
      → StartStands s key d ↔ IsDotOfOne (IsMaximalStart sets held.operations key) d
  pub drains : (n : ℕ) (s : StateValue) (held : NodeSet) → RunsHolding v sets n s held → (at : Origin) (d : Dot)
      → DrainStands s at d ↔ IsDotOfOne (IsMaximalDrain sets held.operations at) d
