-- Properties that every run leaves for all controllers together.
use Rattle.std.specs.Prelude.{◌≡◌, ℕ, false, List, [], ◌∷◌, length, Some, filter}
use Rattle.std.specs.List.{slice_get, list_any}
use Rattle.std.specs.Option.{option_map}
use Rattle.std.specs.FinSet as set
use Rattle.dac_base.specs.declared.NodeId.{NodeId}
use Rattle.dac_base.specs.declared.AppId.{AppId}
use Rattle.dac_origins.specs.declared.dot.Origin.{Origin}
use Rattle.dac_origins.specs.Dots.{Dots}
use Rattle.dac_operations.specs.Operations.{Operation}
use Rattle.dac_meaning.specs.StateValue.{StateValue}
use Rattle.dac_meaning.specs.Meaning.{meaning_of, has_dot, AreOperationsOf}
use Rattle.dac_config.specs.Table.{Table}
use Rattle.dac_messages.specs.StateSpelling.{spelling_of}
use Rattle.dac_decide.specs.Placement.{holder_of, verdict_of, candidate_of}
use Rattle.dac_messages.specs.declared.message.Message.{Message}
use Rattle.dac_messages.specs.Bodies.{content_of}
use Rattle.dac_model_node.specs.NodeValue.{NodeValue, origin_of, state_of}
use Rattle.dac_model_world.specs.WorldValue.{WorldValue}
use Rattle.dac_model_world.specs.ModelWorld.{numbered}
use Rattle.dac_model_world.specs.SetWorld.{SetWorld, NodeSet, operations_of}

-- node n of the world runs with this state
pub record RunsWith (v : WorldValue) (n : ℕ) (s : StateValue) : Type 0 where
  pub node : NodeValue
  pub there : slice_get v.nodes n ≡ Some node
  pub state : state_of node ≡ Some s

-- the operations whose dots were heard
abbrev pub heard_among : Dots → List Operation → List Operation
heard_among heard os = filter (λ (o : Operation). set.contains heard o.dot) os

-- each running node's state is the meaning of the issued operations whose dots it has heard
pub record EachIsMeaning (v : WorldValue) : Type 0 where
  pub each : (n : ℕ) (s : StateValue) → RunsWith v n s → s ≡ meaning_of (heard_among s.heard v.operations)

-- Two states are alike: they are equal, and so are their bytes. Under each configuration they name the same holder and
-- the same next candidate of each application.
pub record Alike (s u : StateValue) : Type 0 where
  pub states : s ≡ u
  pub bytes : spelling_of s ≡ spelling_of u
  pub holders : (app : AppId) → holder_of s app ≡ holder_of u app
  pub candidates : (t : Table) (app : AppId) → candidate_of (verdict_of t s app) ≡ candidate_of (verdict_of t u app)

-- nodes that have heard the same set have states that are alike
pub record Agrees (v : WorldValue) : Type 0 where
  pub each : (m n : ℕ) (s u : StateValue) → RunsWith v m s → RunsWith v n u → s.heard ≡ u.heard → Alike s u

-- no two of the operations have one dot
abbrev pub DistinctDots : List Operation → Type 0
DistinctDots [] = Unit {0}
DistinctDots (o ∷ os) = (list_any (has_dot o.dot) os ≡ false) × DistinctDots os

-- the state that a node's set means
abbrev pub state_by : NodeSet → StateValue
state_by held = meaning_of held.operations

-- the incarnation of node n that holds the set
abbrev pub origin_by : NodeId → NodeSet → Origin
origin_by n held = record { node = n; inc = held.inc }

-- A node runs if and only if it has a set in the world of sets. Its state is the meaning of that set, and its
-- incarnation the set's
pub record HoldsSets (v : WorldValue) (sets : SetWorld) : Type 0 where
  pub each : (n : ℕ) (x : NodeValue) → slice_get v.nodes n ≡ Some x
      → state_of x ≡ option_map state_by (sets.node (numbered n))
  pub incarnation : (n : ℕ) (x : NodeValue) → slice_get v.nodes n ≡ Some x
      → origin_of x ≡ option_map (origin_by (numbered n)) (sets.node (numbered n))

-- The operations of the world are those of the issues in the world of sets, in order. There is one copy for each
-- message
pub record ListsAll (v : WorldValue) (sets : SetWorld) : Type 0 where
  pub operations : v.operations ≡ operations_of sets.issued
  pub copies : length sets.copies ≡ length v.messages

-- each message carries the meaning of a set of issued operations
pub record CarryMeanings (v : WorldValue) : Type 0 where
  pub each : (k : ℕ) (m : Message) → slice_get v.messages k ≡ Some m
      → (os : List Operation) × (AreOperationsOf os v.operations × (content_of m.body ≡ meaning_of os))
