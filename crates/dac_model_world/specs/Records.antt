-- The records of each node in a run: its own events with their results.
use Rattle.std.specs.Prelude.{◌≡◌, ℕ, cond, nat_eq, List, [], ◌∷◌, ◌++◌, Option, Some, None, Result, Ok, Err}
use Rattle.std.specs.List.{slice_get}
use Rattle.dac_base.specs.declared.NodeId.{NodeId}
use Rattle.dac_config.specs.Table.{Table}
use Rattle.dac_events.specs.declared.WorldEvent.{WorldEvent}
use Rattle.dac_messages.specs.declared.event.Event.{Event}
use Rattle.dac_messages.specs.declared.reply.Reply.{Reply}
use Rattle.dac_events.specs.declared.refusal.Refusal.{Refusal}
use Rattle.dac_events.specs.declared.refusal.Refusal.TheVariants.{NoMemory}
use Rattle.dac_events.specs.declared.world_fault.WorldFault.{WorldFault}
use Rattle.dac_events.specs.declared.world_fault.WorldFault.TheVariants.{Refused}
use Rattle.dac_model_node.specs.NodeValue.{NodeValue}
use Rattle.dac_model_node.specs.ModelNode.{ModelNode, shown}
use Rattle.dac_model_world.specs.Histories.{Entry, IsHistory, off_after}
use Rattle.dac_model_world.specs.WorldValue.{WorldValue}
use Rattle.dac_model_world.specs.ModelWorld.{ModelWorld, event_of, start, went, numbered, Run}

-- The node's own result. There is none if the world has no such node, message or operation, and none if an allocation
-- failed, because nothing happened.
abbrev pub own_answer : Result Reply WorldFault → Option (Result Reply Refusal)
own_answer (Ok reply) = Some (Ok reply)
own_answer (Err (Refused NoMemory)) = None
own_answer (Err (Refused why)) = Some (Err why)
own_answer (Err _) = None

-- the record of a node's event
abbrev pub recorded : Option (Result Reply Refusal) → Result Event WorldFault → List Entry
recorded None what = []
recorded (Some answer) (Err fault) = []
recorded (Some answer) (Ok e) = (record { event = e; answer = answer }) ∷ []

-- the record of node n of one event of the world w
abbrev pub records_of : NodeId → ModelWorld → WorldEvent → Result Reply WorldFault → List Entry
records_of n w e answer =
    cond (nat_eq n.0 e.node.0) (recorded (own_answer answer) (event_of w.operations w.messages e.what)) []

-- the records of node n of these events with these results, from w
abbrev pub records_at : Table → NodeId → ModelWorld → List WorldEvent → List (Result Reply WorldFault) → List Entry
records_at t n w [] answers = []
records_at t n w (e ∷ es) [] = []
records_at t n w (e ∷ es) (a ∷ answers) = records_of n w e a ++ records_at t n (went t w e a) es answers

-- The records of a node in a run from the start are a history of it, from before its first boot to its value after the
-- run.
abbrev pub RecordsAreHistories : Type 0
RecordsAreHistories = (t : Table) (events : List WorldEvent) (answers : List (Result Reply WorldFault))
    (final : ModelWorld) → Run t (start t) events answers final
    → (n : NodeId) → IsHistory t n (off_after 0) (records_at t n (start t) events answers) (final.node n)

-- for each node of the program's world, the history that it records ends at a model node that shows as it
pub record HaveHistories (t : Table) (events : List WorldEvent) (answers : List (Result Reply WorldFault))
    (v : WorldValue) : Type 0 where
  pub each : (n : ℕ) (x : NodeValue) → slice_get v.nodes n ≡ Some x
      → (d : ModelNode) × (IsHistory t (numbered n) (off_after 0) (records_at t (numbered n) (start t) events answers) d × (shown t d ≡ x))
