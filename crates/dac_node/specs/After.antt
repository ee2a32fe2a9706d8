-- The running value after a change.
use Rattle.std.specs.Prelude.{◌≡◌, ℕ, ◌+◌, ◌≤◌, cond, List, [], length, Option, Some, None, MatchOption, unwrap_or, fold}
use Rattle.std.specs.Option.{option_map, option_to_list}
use Rattle.dac_base.specs.declared.limits.TheConstants.{MAX_COUNTER}
use Rattle.dac_meaning.specs.StateValue.{StateValue, join}
use Rattle.dac_meaning.specs.Below.{is_below}
use Rattle.dac_deltas.specs.KeptDeltas.{pushed, trimmed}
use Rattle.dac_config.specs.Table.{Table, node_count}
use Rattle.dac_messages.specs.declared.message.Message.{Message}
use Rattle.dac_messages.specs.Bodies.{content_of}
use Rattle.dac_peers.specs.Peers.{PeersValue, acked_by_all, heard_from}
use Rattle.dac_model_node.specs.NodeValue.{RunningValue}
use Rattle.dac_node.specs.declared.ticking.TickChange.{TickChange}
use Rattle.dac_node.specs.declared.notes.NoteChange.{NoteChange}
use Rattle.dac_node.specs.declared.change.After.{After}
use Rattle.dac_node.specs.declared.change.After.TheVariants.{Off, Boots, Ticks, Notes}

-- ---- ticks

-- a running node after a tick
abbrev pub ticked : TickChange → RunningValue → RunningValue
ticked x r = record r {
  moments = record { booted = r.moments.booted; last = x.now };
  is_open = x.is_open;
  waits = unwrap_or x.waits r.waits;
  state = unwrap_or x.state r.state;
  kept = fold pushed r.kept x.deltas.items;
}

-- the tick isn't before the last one, and its state is the present one with its deltas
pub record IsTickAt (r : RunningValue) (x : TickChange) : Type 0 where
  pub order : r.moments.last ≤ x.now
  pub state : MatchOption x.state (x.deltas.items ≡ []) (λ s. s ≡ fold join r.state x.deltas.items)

-- ---- other events

-- an event that brings this delta, if any, and leaves this peer table
abbrev pub noting : PeersValue → Option StateValue → NoteChange
noting peers delta = record { delta = delta; peers = peers; trims_for = None }

-- the delta that an incoming state brings: none if it is below the present one
abbrev pub news : StateValue → StateValue → Option StateValue
news s body = cond (is_below body s) None (Some body)

-- a message, after which deltas that all other nodes have acknowledged are dropped
abbrev pub message_notes : Table → RunningValue → Message → NoteChange
message_notes t r m = record {
  delta = news r.state (content_of m.body);
  peers = heard_from r.origin r.kept.count r.peers m;
  trims_for = Some (node_count t);
}

-- a running node with these deltas
abbrev pub gained : List StateValue → RunningValue → RunningValue
gained adds r = record r { state = fold join r.state adds; kept = fold pushed r.kept adds }

-- a running node without the deltas that all others of this number of nodes, if there is one, have acknowledged
abbrev pub dropping : Option ℕ → RunningValue → RunningValue
dropping None r = r
dropping (Some nodes) r = record r { kept = trimmed r.kept (acked_by_all r.peers r.state nodes r.origin.node) }

-- a running node after these notes
abbrev pub noted : NoteChange → RunningValue → RunningValue
noted x r = dropping x.trims_for (record (gained (option_to_list x.delta) r) { peers = x.peers })

-- ---- changes

-- the running value after a change of this one, if any
abbrev pub running_after : After → Option RunningValue → Option RunningValue
running_after Off old = None
running_after (Boots b) old = Some b.value
running_after (Ticks x) old = option_map (ticked x) old
running_after (Notes x) old = option_map (noted x) old

-- the new deltas
abbrev pub adds_of : After → List StateValue
adds_of (Ticks x) = x.deltas.items
adds_of (Notes x) = option_to_list x.delta
adds_of _ = []

-- a tick is one of this node
abbrev pub IsAt : RunningValue → After → Type 0
IsAt r (Ticks x) = IsTickAt r x
IsAt r _ = Unit {0}

-- numbers are left for the new deltas, and a tick is one of this node
abbrev pub FitsIn : Option RunningValue → After → Type 0
FitsIn None after = Unit {0}
FitsIn (Some r) after = (r.kept.count + length (adds_of after) ≤ MAX_COUNTER) × IsAt r after
