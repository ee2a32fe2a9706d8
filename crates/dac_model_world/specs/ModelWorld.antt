-- The model world: nodes, issued operations and shipped messages, and its runs.
use Rattle.std.specs.Prelude.{◌≡◌, ℕ, ◌-◌, cond, nat_eq, nat_lt, List, [], ◌∷◌, ◌++◌, length, Option, Some, None, Result, Ok, Err, IsOk, ◌⊎◌}
use Rattle.std.specs.List.{slice_get}
use Rattle.dac_base.specs.declared.NodeId.{NodeId}
use Rattle.dac_config.specs.Table.{Table, node_count}
use Rattle.dac_operations.specs.Operations.{Operation}
use Rattle.dac_events.specs.declared.WorldEvent.{WorldEvent}
use Rattle.dac_events.specs.declared.What.{What}
use Rattle.dac_events.specs.declared.What.TheVariants.{Boot as Boots, Crash as Crashes, Command as Tells, Tick as Ticks, Ship as Ships, Deliver, Hand}
use Rattle.dac_messages.specs.declared.message.Message.{Message}
use Rattle.dac_messages.specs.declared.event.Event.{Event}
use Rattle.dac_messages.specs.declared.event.Event.TheVariants.{Boot, Crash, Command as Commanded, Tick, Ship, Hear, HearOp}
use Rattle.dac_messages.specs.declared.reply.Reply.{Reply}
use Rattle.dac_messages.specs.declared.reply.Reply.TheVariants.{Crashed, Shipped}
use Rattle.dac_events.specs.declared.refusal.Refusal.{Refusal}
use Rattle.dac_events.specs.declared.refusal.Refusal.TheVariants.{NoMemory}
use Rattle.dac_events.specs.declared.world_fault.WorldFault.{WorldFault}
use Rattle.dac_events.specs.declared.world_fault.WorldFault.TheVariants.{NoSuchNode, NoSuchMessage, NoSuchOperation, Refused}
use Rattle.dac_model_node.specs.ModelNode.{ModelNode, shown}
use Rattle.dac_model_node.specs.Step.{model_step}
pub use Rattle.dac_model_node.specs.Effect.{issued_by}
use Rattle.dac_model_world.specs.Histories.{off_after}
use Rattle.dac_model_world.specs.WorldValue.{WorldValue}

-- The number of nodes, each node, and, oldest first, the issued operations and the shipped messages. (Nodes past the
-- number stay off.)
pub record ModelWorld : Type 0 where
  pub count : ℕ
  pub node : NodeId → ModelNode
  pub operations : List Operation
  pub messages : List Message

-- the node with this number
abbrev pub numbered : ℕ → NodeId
numbered n = record { 0 = n }

-- the model world shows as this world of the program, under a configuration
pub record Shows (t : Table) (w : ModelWorld) (v : WorldValue) : Type 0 where
  pub count : length v.nodes ≡ w.count
  pub nodes : (n : ℕ) → slice_get v.nodes n ≡ cond (nat_lt n w.count) (Some (shown t (w.node (numbered n)))) None
  pub operations : v.operations ≡ w.operations
  pub messages : v.messages ≡ w.messages

-- all nodes of the configuration are off and have never booted
abbrev pub start : Table → ModelWorld
start t = record { count = node_count t; node = λ _. off_after 0; operations = []; messages = [] }

-- ---- one event
-- the k-th of a list, counted from 1
abbrev pub counted : {X : Type 0} → List X → ℕ → Option X
counted xs k = cond (nat_eq k 0) None (slice_get xs (k - 1))

-- the node's event when a message is delivered
abbrev pub heard_by : Option Message → Result Event WorldFault
heard_by None = Err NoSuchMessage
heard_by (Some m) = Ok (Hear m)

-- the node's event when a single operation is handed
abbrev pub handed_by : Option Operation → Result Event WorldFault
handed_by None = Err NoSuchOperation
handed_by (Some o) = Ok (HearOp o)

-- the node's event, from the issued operations and the shipped messages
abbrev pub event_of : List Operation → List Message → What → Result Event WorldFault
event_of os ms (Boots now) = Ok (Boot now)
event_of os ms Crashes = Ok Crash
event_of os ms (Tells c) = Ok (Commanded c)
event_of os ms (Ticks now) = Ok (Tick now)
event_of os ms (Ships to) = Ok (Ship to)
event_of os ms (Deliver k) = heard_by (counted ms k)
event_of os ms (Hand k) = handed_by (counted os k)

-- the messages that a reply ships
abbrev pub shipped_by : Reply → List Message
shipped_by (Shipped m) = m ∷ []
shipped_by _ = []

-- replaces node n
abbrev pub with_node : (NodeId → ModelNode) → NodeId → ModelNode → NodeId → ModelNode
with_node node n d m = cond (nat_eq m.0 n.0) d (node m)

pub record WorldStepped : Type 0 where
  pub world : ModelWorld
  pub answer : Result Reply WorldFault

abbrev pub answered_by : ModelWorld → NodeId → ModelNode → Result Reply Refusal → WorldStepped
answered_by w n d (Err why) = record { world = w; answer = Err (Refused why) }
answered_by w n d (Ok reply) = record {
  world = record { count = w.count; node = with_node w.node n d; operations = w.operations ++ issued_by reply; messages = w.messages ++ shipped_by reply };
  answer = Ok reply;
}

abbrev pub happens_by : Table → ModelWorld → NodeId → Result Event WorldFault → WorldStepped
happens_by t w n (Err fault) = record { world = w; answer = Err fault }
happens_by t w n (Ok e) = answered_by w n (model_step t n (w.node n) e).node (model_step t n (w.node n) e).answer

-- one event of the world
abbrev pub happens : Table → ModelWorld → WorldEvent → WorldStepped
happens t w e = cond (nat_lt e.node.0 w.count) (happens_by t w e.node (event_of w.operations w.messages e.what))
    (record { world = w; answer = Err NoSuchNode })

-- ---- runs
-- the result of a failed allocation
abbrev pub out_of_memory : Result Reply WorldFault
out_of_memory = Err (Refused NoMemory)

-- the world's result and next value are those of the rules
pub record Done (by : WorldStepped) (answer : Result Reply WorldFault) (next : ModelWorld) : Type 0 where
  pub answered : answer ≡ by.answer
  pub went_on : next ≡ by.world

-- An allocation failed for an event that would have been accepted, so nothing happened. A crash allocates nothing.
pub record Lacked (w : ModelWorld) (by : WorldStepped) (answer : Result Reply WorldFault)
    (next : ModelWorld) : Type 0 where
  pub answered : answer ≡ out_of_memory
  pub accepted : IsOk by.answer
  pub wants : by.answer ≡ Ok Crashed → ⊥
  pub stayed : next ≡ w

-- an event, its result, and the world after it
abbrev pub Step : ModelWorld → WorldStepped → Result Reply WorldFault → ModelWorld → Type 0
Step w by answer next = Done by answer next ⊎ Lacked w by answer next

-- an allocation can fail for an event that would have been accepted, unless it is a crash
pub record MayLack (by : WorldStepped) : Type 0 where
  pub accepted : IsOk by.answer
  pub wants : by.answer ≡ Ok Crashed → ⊥

-- the result is that of the rules, or `NoMemory`
abbrev pub IsAnswer : WorldStepped → Result Reply WorldFault → Type 0
IsAnswer by answer = (answer ≡ by.answer) ⊎ ((answer ≡ out_of_memory) × MayLack by)

-- the world after an event with this result: unchanged if an allocation failed, and otherwise as the rules say
abbrev pub went : Table → ModelWorld → WorldEvent → Result Reply WorldFault → ModelWorld
went t w e (Err (Refused NoMemory)) = w
went t w e _ = (happens t w e).world

-- the world after these events with these results, from w
abbrev pub world_after : Table → ModelWorld → List WorldEvent → List (Result Reply WorldFault) → ModelWorld
world_after t w [] answers = w
world_after t w (e ∷ es) [] = w
world_after t w (e ∷ es) (a ∷ answers) = world_after t (went t w e a) es answers

-- these are results of these events, from w
abbrev pub AnsweredAs : Table → ModelWorld → List WorldEvent → List (Result Reply WorldFault) → Type 0
AnsweredAs t w [] [] = Unit {0}
AnsweredAs t w [] (a ∷ answers) = ⊥
AnsweredAs t w (e ∷ es) [] = ⊥
AnsweredAs t w (e ∷ es) (a ∷ answers) = IsAnswer (happens t w e) a × AnsweredAs t (went t w e a) es answers

-- these are results of these events, from w, and they lead to `final`
abbrev pub Run : Table → ModelWorld → List WorldEvent → List (Result Reply WorldFault) → ModelWorld → Type 0
Run t w es answers final = AnsweredAs t w es answers × (final ≡ world_after t w es answers)

-- From old, the program's world returns this result and goes to new, as each model world that shows as old can.
pub record Follows (t : Table) (old : WorldValue) (by : ModelWorld → WorldStepped) (answer : Result Reply WorldFault)
    (new : WorldValue) : Type 0 where
  pub each : (w : ModelWorld) → Shows t w old → (next : ModelWorld) × (Step w (by w) answer next × Shows t next new)

-- The program's world returned these results for these events from the start, and is now the one as which the model
-- world after them shows.
pub record RanAs (t : Table) (events : List WorldEvent) (answers : List (Result Reply WorldFault))
    (v : WorldValue) : Type 0 where
  pub final : ModelWorld
  pub run : Run t (start t) events answers final
  pub shows : Shows t final v

-- P holds of each run from the start: of the configuration, its events, its results, and the program's world after it
abbrev pub InEachRun : (Table → List WorldEvent → List (Result Reply WorldFault) → WorldValue → Type 0) → Type 0
InEachRun P = (t : Table) (events : List WorldEvent) (answers : List (Result Reply WorldFault)) (v : WorldValue)
    → RanAs t events answers v → P t events answers v
