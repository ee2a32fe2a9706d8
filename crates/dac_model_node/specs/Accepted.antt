-- The rules for the program's node: a state, the newest deltas and the waits, in place of the model node's log and
-- notes.
use Rattle.std.specs.Prelude.{◌≡◌, ℕ, ◌+◌, ◌≤◌, true, false, cond, List, [], ◌∷◌, length, Option, Some, None, IfSome, fold}
use Rattle.dac_base.specs.declared.NodeId.{NodeId}
use Rattle.dac_origins.specs.declared.dot.Origin.{Origin}
use Rattle.dac_config.specs.Table.{Table}
use Rattle.dac_meaning.specs.StateValue.{StateValue, IsState, bottom, join}
use Rattle.dac_meaning.specs.Meaning.{meaning_of}
use Rattle.dac_deltas.specs.KeptDeltas.{KeptDeltas, empty, pushed, trimmed}
use Rattle.dac_peers.specs.Peers.{no_peers}
use Rattle.dac_decide.specs.declared.waits.Noted.{Noted}
use Rattle.dac_decide.specs.FailoverWait.{Note, waits_of}
use Rattle.dac_messages.specs.declared.event.Event.{Event}
use Rattle.dac_messages.specs.declared.reply.Reply.{Reply}
use Rattle.dac_messages.specs.declared.reply.Reply.TheVariants.{Booted}
use Rattle.dac_model_node.specs.NodeValue.{NodeValue, RunningValue}
use Rattle.dac_model_node.specs.EventRefusals.{refusal_of}
use Rattle.dac_model_node.specs.Transitions.{Transition, transition_of, moment_of, note_of}
use Rattle.dac_model_node.specs.Step.{up}
use Rattle.dac_deltas.specs.declared.buffer.TheConstants.{MAX_DELTAS}

-- a running node after a boot at this moment
abbrev pub booted : Table → Origin → ℕ → RunningValue
booted t own now = record {
  origin = own;
  moments = record { booted = now; last = now };
  is_open = false;
  waits = waits_of t [];
  state = join bottom (meaning_of (up own ∷ []));
  kept = pushed empty (meaning_of (up own ∷ []));
  peers = no_peers;
}

-- a running node after a transition, whose waits are `noted` if the transition notes
abbrev pub running_by : RunningValue → List (Option Noted) → Transition → Option RunningValue
running_by r noted transition = cond transition.goes_off None (Some (record {
  origin = r.origin;
  moments = record { booted = r.moments.booted; last = transition.last };
  is_open = transition.is_open;
  waits = cond transition.notes noted r.waits;
  state = fold join r.state transition.adds;
  kept = trimmed (fold pushed r.kept transition.adds) transition.trim;
  peers = transition.peers;
}))

-- the reply to an accepted event
abbrev pub reply_by : Table → NodeId → ℕ → Option RunningValue → List (Option Noted) → Event → Reply
reply_by t me last None noted e = Booted (up (record { node = me; inc = last + 1 }))
reply_by t me last (Some r) noted e = (transition_of t r noted e).reply

-- the node after an accepted event
abbrev pub left_by : Table → NodeId → ℕ → Option RunningValue → List (Option Noted) → Event → NodeValue
left_by t me last None noted e =
    record { last = last + 1; running = Some (booted t (record { node = me; inc = last + 1 }) (moment_of e)) }
left_by t me last (Some r) noted e = record { last = last; running = running_by r noted (transition_of t r noted e) }

-- if the event notes which claims are lost, these waits are those before with one more note
abbrev pub IsNoting : Table → RunningValue → List (Option Noted) → Event → Type 0
IsNoting t r noted e = (transition_of t r noted e).notes ≡ true → (notes : List Note) → r.waits ≡ waits_of t notes
    → noted ≡ waits_of t (note_of r.state e ∷ notes)

-- `IsNoting` for a node that may be off, which notes nothing
abbrev pub IsNotingBy : Table → Option RunningValue → List (Option Noted) → Event → Type 0
IsNotingBy t None noted e = Unit {0}
IsNotingBy t (Some r) noted e = IsNoting t r noted e

-- the delta log has the newest deltas, at most 256
pub record AreNewest (k : KeptDeltas StateValue) : Type 0 where
  pub numbered : k.base + length k.deltas ≡ k.count
  pub few : length k.deltas ≤ MAX_DELTAS

-- the node accepts the event, with this reply, and becomes this value
pub record AcceptedAs (t : Table) (me : NodeId) (old : NodeValue) (e : Event) (new : NodeValue)
    (answer : Reply) : Type 0 where
  pub accepted : refusal_of t old e ≡ None
  pub newest : IfSome old.running (λ (r : RunningValue). AreNewest r.kept)
  pub state : IfSome old.running (λ (r : RunningValue). IsState r.state)
  pub noted : List (Option Noted)
  pub noting : IsNotingBy t old.running noted e
  pub left : new ≡ left_by t me old.last old.running noted e
  pub reply : answer ≡ reply_by t me old.last old.running noted e
