-- The world of sets. Each node is off or holds a set of operations, and a message carries a copy of the sender's whole
-- set. Sets are lists without regard to order and repetition.
use Rattle.std.specs.Prelude.{ℕ, Bool, true, cond, not, ◌&&◌, nat_eq, List, [], ◌∷◌, ◌++◌, map as list_map, Option, Some, None, Result, Ok, Err}
use Rattle.std.specs.Option.{option_map_or}
use Rattle.dac_base.specs.declared.NodeId.{NodeId}
use Rattle.dac_operations.specs.Operations.{Operation}
use Rattle.dac_events.specs.declared.WorldEvent.{WorldEvent}
use Rattle.dac_events.specs.declared.What.{What}
use Rattle.dac_events.specs.declared.What.TheVariants.{Deliver, Hand}
use Rattle.dac_messages.specs.declared.message.Message.{Message}
use Rattle.dac_messages.specs.declared.reply.Reply.{Reply}
use Rattle.dac_messages.specs.declared.reply.Reply.TheVariants.{Booted, Crashed, Issued, Ticked, Held, GaveUp, Shipped, Heard}
use Rattle.dac_events.specs.declared.world_fault.WorldFault.{WorldFault}
use Rattle.dac_model_world.specs.ModelWorld.{counted}

-- a running node: its incarnation and its set of operations
pub record NodeSet : Type 0 where
  pub inc : ℕ
  pub operations : List Operation

-- an operation with its issuer's set when it was issued
pub record Issue : Type 0 where
  pub operation : Operation
  pub before : List Operation

-- A copy of a node's whole set for another node, with the addressee's incarnation that it is bound to, if any
pub record Copy : Type 0 where
  pub from : NodeId
  pub to : NodeId
  pub only : Option ℕ
  pub operations : List Operation

-- the set of each running node, and, oldest first, each operation issued and each copy shipped
pub record SetWorld : Type 0 where
  pub node : NodeId → Option NodeSet
  pub issued : List Issue
  pub copies : List Copy

-- all nodes are off
abbrev pub no_sets : SetWorld
no_sets = record { node = λ _. None; issued = []; copies = [] }

-- ---- sets
-- replaces the set of node n
abbrev pub with_set : (NodeId → Option NodeSet) → NodeId → Option NodeSet → NodeId → Option NodeSet
with_set node n s m = cond (nat_eq m.0 n.0) s (node m)

-- the operations that a node holds; none if it is off
abbrev pub held_by : Option NodeSet → List Operation
held_by None = []
held_by (Some held) = held.operations

-- a set with more operations
abbrev pub and_more : NodeSet → List Operation → NodeSet
and_more held os = record { inc = held.inc; operations = held.operations ++ os }

-- a running node's set with more operations
abbrev pub united : Option NodeSet → List Operation → Option NodeSet
united None os = None
united (Some held) os = Some (and_more held os)

-- ---- issued operations
-- these operations are issued one after another, each with the set that those before it leave
abbrev pub issues_of : List Operation → List Operation → List Issue
issues_of before [] = []
issues_of before (o ∷ os) = (record { operation = o; before = before }) ∷ issues_of (before ++ o ∷ []) os

-- the operations of the issues
abbrev pub operations_of : List Issue → List Operation
operations_of issues = list_map (λ (i : Issue). i.operation) issues

-- the boot of node n issues the operation, which is its set
abbrev pub booting : SetWorld → NodeId → Operation → SetWorld
booting w n o = record {
  node = with_set w.node n (Some (record { inc = o.dot.origin.inc; operations = o ∷ [] }));
  issued = w.issued ++ issues_of [] (o ∷ []);
  copies = w.copies;
}

-- node n issues the operations, and adds them to its set
abbrev pub issuing : SetWorld → NodeId → List Operation → SetWorld
issuing w n os = record {
  node = with_set w.node n (united (w.node n) os);
  issued = w.issued ++ issues_of (held_by (w.node n)) os;
  copies = w.copies;
}

-- node n goes off
abbrev pub going_off : SetWorld → NodeId → SetWorld
going_off w n = record { node = with_set w.node n None; issued = w.issued; copies = w.copies }

-- ---- copies
-- the copy of node n's whole set, if it runs, addressed and bound as a message is
abbrev pub copied_by : Option NodeSet → NodeId → Message → List Copy
copied_by None n m = []
copied_by (Some held) n m = (record { from = n; to = m.to; only = m.only; operations = held.operations }) ∷ []

-- the copy is for node n as this incarnation, and from another node
abbrev pub is_for : NodeId → ℕ → Copy → Bool
is_for n inc c = nat_eq c.to.0 n.0 && (not (nat_eq c.from.0 n.0) && option_map_or (λ only. nat_eq only inc) c.only true)

-- The operations that a copy brings to a node: its whole set. It brings none if the node is off, is the sender, isn't
-- the addressee, or runs as another incarnation than the one that the copy is bound to.
abbrev pub copied_to : NodeId → Option NodeSet → Option Copy → List Operation
copied_to n None c = []
copied_to n (Some held) None = []
copied_to n (Some held) (Some c) = cond (is_for n held.inc c) c.operations []

-- the operation as a list, if there is one
abbrev pub alone : Option Operation → List Operation
alone None = []
alone (Some o) = o ∷ []

-- the operations that an event brings to node n: a delivery those of the copy, and a handing the one that it names
abbrev pub brought_to : SetWorld → NodeId → What → List Operation
brought_to w n (Deliver k) = copied_to n (w.node n) (counted w.copies k)
brought_to w n (Hand k) = alone (counted (operations_of w.issued) k)
brought_to w n _ = []

-- ---- events
-- One event at node n with its result, which contains the operations issued and the copy's binding. A boot makes a set
-- of one Up. A crash, or a tick that gives up, removes the node's set. Commands and ticks add the operations that they
-- issue. A ship adds a copy of the whole set. Operations delivered or handed are united with the set. A refused event
-- changes nothing.
abbrev pub set_step : SetWorld → NodeId → What → Result Reply WorldFault → SetWorld
set_step w n what (Err fault) = w
set_step w n what (Ok (Booted o)) = booting w n o
set_step w n what (Ok Crashed) = going_off w n
set_step w n what (Ok GaveUp) = going_off w n
set_step w n what (Ok Held) = w
set_step w n what (Ok (Issued o)) = issuing w n (o ∷ [])
set_step w n what (Ok (Ticked ops passed)) = issuing w n ops
set_step w n what (Ok (Shipped m)) =
    record { node = w.node; issued = w.issued; copies = w.copies ++ copied_by (w.node n) n m }
set_step w n what (Ok (Heard fresh)) =
    record { node = with_set w.node n (united (w.node n) (brought_to w n what)); issued = w.issued; copies = w.copies }

-- these events with their results, one after another
abbrev pub set_run : SetWorld → List WorldEvent → List (Result Reply WorldFault) → SetWorld
set_run w [] answers = w
set_run w (e ∷ es) [] = w
set_run w (e ∷ es) (a ∷ answers) = set_run (set_step w e.node e.what a) es answers
