-- Shares: each running node ships all that it has to each other one, and all end with the same set.
use Rattle.std.specs.Prelude.{◌≡◌, ◌⊎◌, ◌↔◌, ℕ, ◌<◌, ◌+◌, List, [], ◌∷◌, length, take, drop, Option, Some, None, Result, Ok, Err}
use Rattle.std.specs.FinMap as map
use Rattle.dac_base.specs.declared.NodeId.{NodeId}
use Rattle.dac_chains.specs.declared.lives.Life.{Life}
use Rattle.dac_operations.specs.Operations.{Operation}
use Rattle.dac_meaning.specs.Meaning.{meaning_of, IsOperationOf}
use Rattle.dac_events.specs.declared.WorldEvent.{WorldEvent}
use Rattle.dac_events.specs.declared.What.{What}
use Rattle.dac_events.specs.declared.What.TheVariants.{Ship as Ships, Deliver}
use Rattle.dac_messages.specs.declared.reply.Reply.{Reply}
use Rattle.dac_messages.specs.declared.reply.Reply.TheVariants.{Shipped, Heard}
use Rattle.dac_events.specs.declared.refusal.Refusal.TheVariants.{UpToDate}
use Rattle.dac_events.specs.declared.world_fault.WorldFault.{WorldFault}
use Rattle.dac_events.specs.declared.world_fault.WorldFault.TheVariants.{Refused}
use Rattle.dac_model_world.specs.SetWorld.{SetWorld, NodeSet, set_step, set_run, no_sets}
use Rattle.dac_model_world.specs.Fits.{RunsIn, IsHeard}

-- ---- ships that reach
-- in these events message k is delivered to node n and heard
abbrev pub IsHeardAt : NodeId → ℕ → List WorldEvent → List (Result Reply WorldFault) → Type 0
IsHeardAt n k [] answers = ⊥
IsHeardAt n k (e ∷ es) [] = ⊥
IsHeardAt n k (e ∷ es) (a ∷ answers) =
    ((e ≡ record { node = n; what = Deliver k }) × IsHeard a) ⊎ IsHeardAt n k es answers

-- The result of a ship to node n: it is refused as up to date, or its message, number k, is heard in the events after
-- it.
abbrev pub Reaches : NodeId → ℕ → Result Reply WorldFault → List WorldEvent → List (Result Reply WorldFault) → Type 0
Reaches n k (Err fault) es answers = fault ≡ Refused UpToDate
Reaches n k (Ok reply) es answers = IsHeardAt n k es answers

-- among these events, from w, a ship of the one node to the other reaches it
abbrev pub TellsAll : SetWorld → NodeId → NodeId → List WorldEvent → List (Result Reply WorldFault) → Type 0
TellsAll w from to [] answers = ⊥
TellsAll w from to (e ∷ es) [] = ⊥
TellsAll w from to (e ∷ es) (a ∷ answers) =
    ((e ≡ record { node = from; what = Ships to }) × Reaches to (length w.copies + 1) a es answers) ⊎ TellsAll (set_step w e.node e.what a) from to es answers

-- ---- shares
-- the event delivers a copy shipped after the first `before`
abbrev pub IsSince : ℕ → What → Type 0
IsSince before (Deliver k) = before < k
IsSince before _ = ⊥

-- The events accepted in a share that begins after `before` copies: ships, and deliveries of messages shipped in the
-- share. Refused events are permitted.
abbrev pub InShare : ℕ → What → Result Reply WorldFault → Type 0
InShare before what (Err fault) = Unit {0}
InShare before what (Ok (Shipped m)) = Unit {0}
InShare before what (Ok (Heard fresh)) = IsSince before what
InShare before what (Ok _) = ⊥

-- all these events are in a share
abbrev pub AreInShare : ℕ → List WorldEvent → List (Result Reply WorldFault) → Type 0
AreInShare before [] answers = Unit {0}
AreInShare before (e ∷ es) [] = Unit {0}
AreInShare before (e ∷ es) (a ∷ answers) = InShare before e.what a × AreInShare before es answers

-- These events with their results, from w, are a share: each running node ships all that it has to each other one.
pub record IsShare (w : SetWorld) (es : List WorldEvent) (answers : List (Result Reply WorldFault)) : Type 0 where
  pub fits : AreInShare (length w.copies) es answers
  pub tells : (from to : NodeId) → RunsIn w from → RunsIn w to → ¬ (from ≡ to) → TellsAll w from to es answers

-- ---- the sets after a share
-- each running node knows the present incarnation of each other one, or nothing of its life
abbrev pub KnowPresent : SetWorld → Type 0
KnowPresent w = (n m : NodeId) (mine theirs : NodeSet) → ¬ (n ≡ m) → w.node n ≡ Some mine → w.node m ≡ Some theirs
    → (life : Life) → map.get (meaning_of mine.operations).lives m ≡ Some life → life.inc ≡ theirs.inc

-- a running node holds the operation
pub record IsHeld (w : SetWorld) (o : Operation) : Type 0 where
  pub node : NodeId
  pub held : NodeSet
  pub on : w.node node ≡ Some held
  pub there : IsOperationOf o held.operations

-- the node runs as this incarnation, and holds exactly the union of the sets of w
pub record HasUnion (w : SetWorld) (inc : ℕ) (after : Option NodeSet) : Type 0 where
  pub set : NodeSet
  pub on : after ≡ Some set
  pub same : set.inc ≡ inc
  pub all : (o : Operation) → IsOperationOf o set.operations ↔ IsHeld w o

-- Nodes that ran in w run on as the same incarnations and hold the union of the sets. Nodes that were off are off.
pub record HaveUnion (w next : SetWorld) : Type 0 where
  pub runs : (n : NodeId) (held : NodeSet) → w.node n ≡ Some held → HasUnion w held.inc (next.node n)
  pub off : (n : NodeId) → w.node n ≡ None → next.node n ≡ None

-- Each share among these events leaves the union of their sets to all running nodes, if each knew the present
-- incarnation of each other one, or nothing of its life. The share is the k events after the first b.
abbrev pub SharesUnite : List WorldEvent → List (Result Reply WorldFault) → Type 0
SharesUnite events answers = (b k : ℕ) →
    let w = set_run no_sets (take b events) (take b answers) in
    let share = take k (drop b events) in
    let replies = take k (drop b answers) in
    KnowPresent w → IsShare w share replies → HaveUnion w (set_run w share replies)
