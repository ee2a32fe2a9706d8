-- A world made of issued operations. Every event keeps this, whatever its configuration, so none is mentioned here.
use Rattle.std.specs.Prelude.{◌≡◌, ◌↔◌, ℕ, ◌≤◌, IsTrue, List, [], ◌∷◌, Some}
use Rattle.std.specs.List.{All, slice_get}
use Rattle.std.specs.FinSet as set
use Rattle.dac_base.specs.declared.NodeId.{NodeId}
use Rattle.dac_origins.specs.declared.dot.Origin.{Origin}
use Rattle.dac_origins.specs.Dots.{IsSubset}
use Rattle.dac_operations.specs.Operations.{Operation}
use Rattle.dac_meaning.specs.StateValue.{StateValue}
use Rattle.dac_meaning.specs.Meaning.{meaning_of, IsOperationOf, AreOperationsOf}
use Rattle.dac_meaning.specs.Below.{is_below}
use Rattle.dac_messages.specs.declared.message.Message.{Message}
use Rattle.dac_messages.specs.Bodies.{content_of}
use Rattle.dac_model_node.specs.NodeValue.{NodeValue, RunningValue}
use Rattle.dac_model_world.specs.WorldValue.{WorldValue}
use Rattle.dac_model_world.specs.ModelWorld.{numbered}
use Rattle.dac_model_world.specs.Convergence.{DistinctDots}

-- the state is the meaning of some of the operations
pub record Means (ops : List Operation) (s : StateValue) : Type 0 where
  pub some : List Operation
  pub within : AreOperationsOf some ops
  pub is : s ≡ meaning_of some

-- ---- nodes
abbrev pub own_origin : NodeId → ℕ → Origin
own_origin n inc = record { node = n; inc = inc }

-- no operation is of an incarnation of node n later than `last`
abbrev pub NoneLater : List Operation → NodeId → ℕ → Type 0
NoneLater ops n last = (o : Operation) → IsOperationOf o ops → o.dot.origin.node ≡ n → o.dot.origin.inc ≤ last

-- the set of node n in its last incarnation: some of the operations, with all that this incarnation issued
pub record SetOk (ops : List Operation) (n : NodeId) (last : ℕ) (os : List Operation) : Type 0 where
  pub within : AreOperationsOf os ops
  pub own : (o : Operation) → IsOperationOf o ops → o.dot.origin ≡ own_origin n last → IsOperationOf o os
  pub old : NoneLater ops n last

-- the running value of node n in its last incarnation: its state means such a set, and each delta kept means operations
pub record RunsMade (ops : List Operation) (n : NodeId) (last : ℕ) (r : RunningValue) : Type 0 where
  pub held : List Operation
  pub state : r.state ≡ meaning_of held
  pub set : SetOk ops n last held
  pub origin : r.origin ≡ own_origin n last
  pub kept : All (Means ops) r.kept.deltas

-- node n
pub record NodeMade (ops : List Operation) (n : NodeId) (x : NodeValue) : Type 0 where
  pub old : NoneLater ops n x.last
  pub runs : (r : RunningValue) → x.running ≡ Some r → RunsMade ops n x.last r

-- ---- the world
-- each message's body means some of the operations
abbrev pub BodiesMean : List Operation → List Message → Type 0
BodiesMean ops ms = All (λ (m : Message). Means ops (content_of m.body)) ms

-- The dots of the issued operations are distinct, and nodes and messages mean such operations.
pub record IsMade (v : WorldValue) : Type 0 where
  pub distinct : DistinctDots v.operations
  pub nodes : (n : ℕ) (x : NodeValue) → slice_get v.nodes n ≡ Some x → NodeMade v.operations (numbered n) x
  pub bodies : BodiesMean v.operations v.messages

-- ---- order by heard dots
-- For states that mean operations with distinct dots, one is below another if and only if the other has heard all of
-- its dots.
abbrev pub HeardDotsAreOrder : Type 0
HeardDotsAreOrder = (ops : List Operation) (s u : StateValue) → DistinctDots ops → Means ops s → Means ops u
    → IsTrue (is_below s u) ↔ IsSubset s.heard u.heard

-- the meaning of one of the operations is below such a state if and only if the state has heard its dot
abbrev pub OneDotIsOrder : Type 0
OneDotIsOrder = (ops : List Operation) (o : Operation) (s : StateValue) → DistinctDots ops → IsOperationOf o ops → Means ops s
    → IsTrue (is_below (meaning_of (o ∷ [])) s) ↔ IsTrue (set.contains s.heard o.dot)
