-- Which deltas a node drops, in words. (After the anti-entropy algorithm for delta intervals of Almeida, Shoker and
-- Baquero, by which a node drops the deltas that all its neighbours acknowledged. The limit of 256 is this project's
-- own.)
use Rattle.std.specs.Prelude.{◌≡◌, ◌↔◌, ◌⊎◌, ◌<◌, ◌+◌, ℕ, Some}
use Rattle.dac_base.specs.declared.NodeId.{NodeId}
use Rattle.dac_meaning.specs.StateValue.{StateValue}
use Rattle.dac_config.specs.Table.{Table, node_count}
use Rattle.dac_deltas.specs.declared.buffer.TheConstants.{MAX_DELTAS}
use Rattle.dac_messages.specs.declared.event.Event.{Event}
use Rattle.dac_messages.specs.declared.event.Event.TheVariants.{Hear}
use Rattle.dac_messages.specs.declared.reply.Reply.{Reply}
use Rattle.dac_peers.specs.Peers.{PeersValue}
use Rattle.dac_peers.specs.InWords.{HasAcked, IsOther}
use Rattle.dac_model_node.specs.NodeValue.{NodeValue, RunningValue}
use Rattle.dac_model_node.specs.Keeping.{Keeps}

-- There is another node, and every other node acknowledged delta k as its present incarnation. (Deltas count from 0, so
-- that n acknowledged deltas are those below n.)
pub record AllHave (p : PeersValue) (s : StateValue) (nodes : ℕ) (own : NodeId) (k : ℕ) : Type 0 where
  pub another : (node : NodeId) × IsOther nodes own node
  pub acked : (node : NodeId) → IsOther nodes own node → (n : ℕ) × HasAcked p s node n × (k < n)

-- The node finds, by its peer table after the event, that all other nodes have the delta. It checks this when it
-- receives a message.
abbrev pub IsHadByAll : Table → Event → RunningValue → ℕ → Type 0
IsHadByAll t (Hear m) u k = AllHave u.peers u.state (node_count t) u.origin.node k
IsHadByAll t e u k = ⊥

-- A node that runs on after an event has dropped a delta in exactly these cases: it had dropped it before, there are
-- 256 later ones, or all other nodes have it.
abbrev pub DropsSo : Table → Event → RunningValue → RunningValue → Type 0
DropsSo t e r u = (k : ℕ) → k < u.kept.count
    → (k < u.kept.base) ↔ ((k < r.kept.base) ⊎ ((k + MAX_DELTAS < u.kept.count) ⊎ IsHadByAll t e u k))

-- each accepted event that leaves a running node running satisfies `DropsSo`
abbrev pub DropsInWords : Type 0
DropsInWords = (t : Table) (me : NodeId) (old new : NodeValue) (e : Event) (reply : Reply) (r u : RunningValue)
    → old.running ≡ Some r → new.running ≡ Some u → Keeps t me old e reply new → DropsSo t e r u
