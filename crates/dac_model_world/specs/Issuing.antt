-- The origin and the counter of each issued operation.
use Rattle.std.specs.Prelude.{◌≡◌, ℕ, ◌<◌, ◌+◌, Bool, List, [], ◌∷◌, ◌++◌, length, filter, Some, Result, Ok}
use Rattle.std.specs.Ordering.{eq_by_cmp}
use Rattle.dac_base.specs.declared.NodeId.{NodeId}
use Rattle.dac_origins.specs.declared.dot.Origin.{Origin}
use Rattle.dac_origins.specs.Dots.{dot, origin_cmp}
use Rattle.dac_operations.specs.declared.act.Act.TheVariants.{Up}
use Rattle.dac_operations.specs.Operations.{Operation}
use Rattle.dac_meaning.specs.Meaning.{IsOperationOf}
use Rattle.dac_events.specs.declared.WorldEvent.{WorldEvent}
use Rattle.dac_messages.specs.declared.reply.Reply.{Reply}
use Rattle.dac_messages.specs.declared.reply.Reply.TheVariants.{Booted, Issued, Ticked}
use Rattle.dac_events.specs.declared.world_fault.WorldFault.{WorldFault}
use Rattle.dac_model_world.specs.SetWorld.{SetWorld, NodeSet, operations_of, set_step}
use Rattle.dac_model_world.specs.Convergence.{origin_by}

-- After these operations, node n boots by this one: an Up, the first operation of an incarnation later than all of the
-- node that have issued any.
pub record IsBoot (n : NodeId) (before : List Operation) (o : Operation) : Type 0 where
  pub act : o.act ≡ Up
  pub inc : ℕ
  pub first : o.dot ≡ dot (record { node = n; inc = inc }) 1
  pub later : (p : Operation) → IsOperationOf p before → p.dot.origin.node ≡ n → p.dot.origin.inc < inc

-- the operation is the incarnation's
abbrev pub is_of : Origin → Operation → Bool
is_of own o = eq_by_cmp origin_cmp o.dot.origin own

-- the number of the incarnation's operations
abbrev pub count_of : Origin → List Operation → ℕ
count_of own os = length (filter (is_of own) os)

-- The operation is the incarnation's next: its counter is one more than the number of operations that the incarnation
-- has issued.
pub record IsOwn (own : Origin) (before : List Operation) (o : Operation) : Type 0 where
  pub origin : o.dot.origin ≡ own
  pub counter : o.dot.n ≡ count_of own before + 1

-- each of these operations is the incarnation's next after those before it
abbrev pub AreOwn : Origin → List Operation → List Operation → Type 0
AreOwn own before [] = Unit {0}
AreOwn own before (o ∷ os) = IsOwn own before o × AreOwn own (before ++ o ∷ []) os

-- node n runs, and the operations are of its present incarnation
pub record AreIssuedAt (w : SetWorld) (n : NodeId) (os : List Operation) : Type 0 where
  pub held : NodeSet
  pub on : w.node n ≡ Some held
  pub own : AreOwn (origin_by n held) (operations_of w.issued) os

-- an event issues operations of its node
abbrev pub TellsIssued : SetWorld → WorldEvent → Result Reply WorldFault → Type 0
TellsIssued w e (Ok (Booted o)) = IsBoot e.node (operations_of w.issued) o
TellsIssued w e (Ok (Issued o)) = AreIssuedAt w e.node (o ∷ [])
TellsIssued w e (Ok (Ticked os passed)) = AreIssuedAt w e.node os
TellsIssued w e _ = Unit {0}

-- each of these events issues operations of its node
abbrev pub TellIssued : SetWorld → List WorldEvent → List (Result Reply WorldFault) → Type 0
TellIssued w [] answers = Unit {0}
TellIssued w (e ∷ es) [] = Unit {0}
TellIssued w (e ∷ es) (a ∷ answers) = TellsIssued w e a × TellIssued (set_step w e.node e.what a) es answers
