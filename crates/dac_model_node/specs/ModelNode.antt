-- The model node, with each state that it issued or heard since its boot, and each note of its ticks. The program
-- stores only the join of the states, the newest of them, and the waits.
use Rattle.std.specs.Prelude.{ℕ, ◌-◌, min, max, Bool, List, Option, fold}
use Rattle.std.specs.Option.{option_map}
use Rattle.dac_origins.specs.declared.dot.Origin.{Origin}
use Rattle.dac_meaning.specs.StateValue.{StateValue, bottom, join}
use Rattle.dac_config.specs.Table.{Table}
use Rattle.dac_deltas.specs.Logs.{kept_of}
use Rattle.dac_peers.specs.Peers.{PeersValue}
use Rattle.dac_decide.specs.FailoverWait.{Note, waits_of}
use Rattle.dac_decide.specs.declared.moments.Moments.{Moments}
use Rattle.dac_model_node.specs.NodeValue.{NodeValue, RunningValue}
use Rattle.dac_deltas.specs.declared.buffer.TheConstants.{MAX_DELTAS}

-- A running node: its incarnation, the moments of its boot and last tick, and whether its start gate is open. `notes`
-- are those of its ticks, newest first, and `log` has each state that it issued or heard, oldest first. Neither list is
-- ever cut. `base` is the number of the first state from which an interval can begin, and `peers` the peer table.
pub record ModelRunning : Type 0 where
  pub origin : Origin
  pub moments : Moments
  pub is_open : Bool
  pub notes : List Note
  pub log : List StateValue
  pub base : ℕ
  pub peers : PeersValue

-- the number of the last incarnation, and its running part
pub record ModelNode : Type 0 where
  pub last : ℕ
  pub running : Option ModelRunning

-- the base after so many states and a trim: at most the newest 256 states, and none below the trim
abbrev pub base_after : ℕ → ℕ → ℕ → ℕ
base_after base count trim = max (max base (count - MAX_DELTAS)) (min trim count)

-- the join of these states
abbrev pub joined : List StateValue → StateValue
joined states = fold join bottom states

-- the program's running node as which the model's shows, under a configuration
abbrev pub running_shown : Table → ModelRunning → RunningValue
running_shown t r = record {
  origin = r.origin;
  moments = r.moments;
  is_open = r.is_open;
  waits = waits_of t r.notes;
  state = joined r.log;
  kept = kept_of r.base r.log;
  peers = r.peers;
}

-- the program's node as which the model node shows
abbrev pub shown : Table → ModelNode → NodeValue
shown t d = record { last = d.last; running = option_map (running_shown t) d.running }
