-- One node replayed alone, and the longest prefix of a journal that agrees with the replay.
use Rattle.std.specs.Prelude.{◌≡◌, ◌↔◌, Bool, IsTrue, ℕ, ◌≤◌, cond, nat_lt, List, [], ◌∷◌, length, take, Result, Ok, Err}
use Rattle.dac_base.specs.declared.NodeId.{NodeId}
use Rattle.dac_config.specs.Table.{Table, node_count}
use Rattle.dac_messages.specs.declared.event.Event.{Event}
use Rattle.dac_messages.specs.declared.reply.Reply.{Reply}
use Rattle.dac_events.specs.declared.refusal.Refusal.{Refusal}
use Rattle.dac_journal.specs.WorldFault.{WorldFault}
use Rattle.dac_journal.specs.WorldFault.TheVariants.{NoSuchNode, Refused}
use Rattle.dac_journal.specs.NodeValue.{NodeValue}
use Rattle.dac_journal.specs.ModelNode.{ModelNode, shown}
use Rattle.dac_journal.specs.Step.{model_step}
use Rattle.dac_journal.specs.Histories.{off_after}
use Rattle.dac_journal.specs.declared.record.Record.{Record}
use Rattle.dac_journal.specs.Journals.{JournalValue}
use Rattle.dac_weave.specs.Woven.{Seen, journal_seen, At}

pub record NodeStepped : Type 0 where
  pub node : ModelNode
  pub answer : Result Reply WorldFault

abbrev pub moved : ModelNode → ModelNode → Result Reply Refusal → NodeStepped
moved old new (Err why) = record { node = old; answer = Err (Refused why) }
moved old new (Ok reply) = record { node = new; answer = Ok reply }

abbrev pub node_step_by : Table → NodeId → ModelNode → Result Event WorldFault → NodeStepped
node_step_by t n d (Err fault) = record { node = d; answer = Err fault }
node_step_by t n d (Ok e) = moved d (model_step t n d e).node (model_step t n d e).answer

-- the step of a world event at its node, without the rest of the world
abbrev pub node_step : Table → NodeId → ModelNode → Result Event WorldFault → NodeStepped
node_step t n d e =
    cond (nat_lt n.0 (node_count t)) (node_step_by t n d e) (record { node = d; answer = Err NoSuchNode })

-- the node after these events
abbrev pub replayed : Table → NodeId → ModelNode → List Seen → ModelNode
replayed t n d [] = d
replayed t n d (x ∷ xs) = replayed t n (node_step t n d x.event).node xs

-- each result is the one that the step returns
abbrev pub AreAnswered : Table → NodeId → ModelNode → List Seen → Type 0
AreAnswered t n d [] = Unit {0}
AreAnswered t n d (x ∷ xs) =
    (x.answer ≡ (node_step t n d x.event).answer) × AreAnswered t n (node_step t n d x.event).node xs

-- k is the length of the longest prefix of the journal with the step's results
pub record IsLongest (t : Table) (j : JournalValue) (k : ℕ) : Type 0 where
  pub within : k ≤ length j.records
  pub answered : AreAnswered t j.beginning.node (off_after 0) (take k (journal_seen j))
  pub ends : (x : Seen) → At (journal_seen j) k x
      → x.answer
      ≡ (node_step t j.beginning.node (replayed t j.beginning.node (off_after 0) (take k (journal_seen j))) x.event).answer → ⊥

-- The program's node goes from old to new by the record's event, and same is whether its result is the record's.
pub record Repeats (t : Table) (me : NodeId) (old : NodeValue) (r : Record) (new : NodeValue)
    (same : Bool) : Type 0 where
  pub by : (d : ModelNode) → shown t d ≡ old
      → (shown t (model_step t me d r.event).node ≡ new)
      × (IsTrue same ↔ ((model_step t me d r.event).answer ≡ r.answer))
