-- The step of the model node.
use Rattle.std.specs.Prelude.{◌≡◌, ℕ, ◌+◌, false, cond, [], ◌∷◌, ◌++◌, length, Option, Some, None, Result, Ok, Err}
use Rattle.dac_base.specs.declared.NodeId.{NodeId}
use Rattle.dac_origins.specs.declared.dot.Origin.{Origin}
use Rattle.dac_origins.specs.Dots.{dot}
use Rattle.dac_operations.specs.declared.act.Act.TheVariants.{Up}
use Rattle.dac_operations.specs.Operations.{Operation, operation}
use Rattle.dac_meaning.specs.Meaning.{meaning_of}
use Rattle.dac_config.specs.Table.{Table}
use Rattle.dac_peers.specs.Peers.{no_peers}
use Rattle.dac_decide.specs.FailoverWait.{Note, waits_of}
use Rattle.dac_messages.specs.declared.event.Event.{Event}
use Rattle.dac_messages.specs.declared.reply.Reply.{Reply}
use Rattle.dac_messages.specs.declared.reply.Reply.TheVariants.{Booted}
use Rattle.dac_events.specs.declared.refusal.Refusal.{Refusal}
use Rattle.dac_model_node.specs.NodeValue.{NodeValue}
use Rattle.dac_model_node.specs.ModelNode.{ModelNode, ModelRunning, joined, base_after, running_shown, shown}
use Rattle.dac_model_node.specs.Transitions.{Transition, transition_of, moment_of, note_of}
use Rattle.dac_model_node.specs.EventRefusals.{refusal_of}

-- the operation of a boot
abbrev pub up : Origin → Operation
up own = operation (dot own 1) Up

-- a node that boots as this incarnation at this moment
abbrev pub comes_up : Origin → ℕ → ModelRunning
comes_up own now = record {
  origin = own;
  moments = record { booted = now; last = now };
  is_open = false;
  notes = [];
  log = meaning_of (up own ∷ []) ∷ [];
  base = 0;
  peers = no_peers;
}

-- a running node after a transition, with this note if the transition notes
abbrev pub goes_on : ModelRunning → Note → Transition → Option ModelRunning
goes_on r note transition = cond transition.goes_off None (Some (record {
  origin = r.origin;
  moments = record { booted = r.moments.booted; last = transition.last };
  is_open = transition.is_open;
  notes = cond transition.notes (note ∷ r.notes) r.notes;
  log = r.log ++ transition.adds;
  base = base_after r.base (length (r.log ++ transition.adds)) transition.trim;
  peers = transition.peers;
}))

-- the transition of an accepted event at a running model node
abbrev pub transition_on : Table → ModelRunning → Event → Transition
transition_on t r e = transition_of t (running_shown t r) (waits_of t (note_of (joined r.log) e ∷ r.notes)) e

-- the result of a step: the node after it, and a reply or a refusal
pub record Stepped : Type 0 where
  pub node : ModelNode
  pub answer : Result Reply Refusal

-- the step of an accepted event
abbrev pub accepted : Table → NodeId → ℕ → Option ModelRunning → Event → Stepped
accepted t me last None e =
    let own : Origin = record { node = me; inc = last + 1 } in
    record { node = record { last = last + 1; running = Some (comes_up own (moment_of e)) }; answer = Ok (Booted (up own)) }
accepted t me last (Some r) e = record {
  node = record { last = last; running = goes_on r (note_of (joined r.log) e) (transition_on t r e) };
  answer = Ok (transition_on t r e).reply;
}

-- a step, given the refusal, if any
abbrev pub step_by : Option Refusal → Table → NodeId → ModelNode → Event → Stepped
step_by (Some why) t me d e = record { node = d; answer = Err why }
step_by None t me d e = accepted t me d.last d.running e

-- the step of one event at the node with number me
abbrev pub model_step : Table → NodeId → ModelNode → Event → Stepped
model_step t me d e = step_by (refusal_of t (shown t d) e) t me d e

-- The program's node steps from old to new, with this result, as each model node does that shows as old.
pub record Steps (t : Table) (me : NodeId) (old : NodeValue) (e : Event) (new : NodeValue)
    (answer : Result Reply Refusal) : Type 0 where
  pub by : (d : ModelNode) → shown t d ≡ old
      → (shown t (model_step t me d e).node ≡ new) × ((model_step t me d e).answer ≡ answer)

-- a model node shows as the value
abbrev pub IsShown : Table → NodeValue → Type 0
IsShown t v = (d : ModelNode) × (shown t d ≡ v)
