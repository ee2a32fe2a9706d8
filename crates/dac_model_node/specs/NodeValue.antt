-- The value of the program's node.
use Rattle.std.specs.Prelude.{ℕ, ◌≤◌, Bool, List, Option, None, refl}
use Rattle.std.specs.Option.{option_map}
use Rattle.std.specs.Coded.{Coded, code_by, coded×, coded_ℕ, coded_bool, coded_list, coded_option}
use Rattle.dac_origins.specs.declared.dot.Origin.{Origin}
use Rattle.dac_origins.specs.Dots.{coded_origin}
use Rattle.dac_meaning.specs.StateValue.{StateValue, coded_state}
use Rattle.dac_deltas.specs.KeptDeltas.{KeptDeltas}
use Rattle.dac_peers.specs.Peers.{PeersValue, coded_peers}
use Rattle.dac_decide.specs.declared.waits.Noted.{Noted}
use Rattle.dac_decide.specs.FailoverWait.{coded_noted}
use Rattle.dac_commands.specs.Commands.{KnowsOwnBoot}
use Rattle.dac_decide.specs.declared.moments.Moments.{Moments}

-- A running node: its incarnation, the moments of its boot and last tick, and whether its start gate is open; its
-- failover timers, its state, the log of the newest deltas, and the peer table.
pub record RunningValue : Type 0 where
  pub origin : Origin
  pub moments : Moments
  pub is_open : Bool
  pub waits : List (Option Noted)
  pub state : StateValue
  pub kept : KeptDeltas StateValue
  pub peers : PeersValue

-- the node knows its own boot, and its last tick isn't before it
pub record IsSound (own : Origin) (moments : Moments) (s : StateValue) : Type 0 where
  pub knows : KnowsOwnBoot own s
  pub order : moments.booted ≤ moments.last

-- the number of the last incarnation, and its running part
pub record NodeValue : Type 0 where
  pub last : ℕ
  pub running : Option RunningValue

-- ---- node values are data

abbrev pub coded_moments : Coded Moments
coded_moments = code_by (ℕ × ℕ) (coded× coded_ℕ coded_ℕ) (λ m. (m.booted, m.last))
    (λ p. record { booted = p.0; last = p.1 }) (λ _. refl)

-- the delta log
abbrev pub coded_kept : Coded (KeptDeltas StateValue)
coded_kept =
    code_by (ℕ × (ℕ × List StateValue)) (coded× coded_ℕ (coded× coded_ℕ (coded_list coded_state)))
    (λ k. (k.count, (k.base, k.deltas)))
    (λ p. record { count = p.0; base = p.1.0; deltas = p.1.1 })
    (λ _. refl)

-- the parts of a running node, in pairs
abbrev RunningParts : Type 0
RunningParts = (Origin × Moments) × ((Bool × List (Option Noted)) × (StateValue × (KeptDeltas StateValue × PeersValue)))

-- a running node, by its parts
abbrev pub coded_running : Coded RunningValue
coded_running =
    code_by RunningParts (coded× (coded× coded_origin coded_moments) (coded× (coded× coded_bool (coded_list (coded_option coded_noted))) (coded× coded_state (coded× coded_kept coded_peers))))
    (λ r. ((r.origin, r.moments), ((r.is_open, r.waits), (r.state, (r.kept, r.peers)))))
    (λ p. record { origin = p.0.0; moments = p.0.1; is_open = p.1.0.0; waits = p.1.0.1; state = p.1.1.0; kept = p.1.1.1.0; peers = p.1.1.1.1 })
    (λ _. refl)

abbrev pub coded_node_value : Coded NodeValue
coded_node_value =
    code_by (ℕ × Option RunningValue) (coded× coded_ℕ (coded_option coded_running)) (λ v. (v.last, v.running))
    (λ p. record { last = p.0; running = p.1 }) (λ _. refl)

-- ---- readers

-- a node that is off
abbrev pub off : ℕ → NodeValue
off last = record { last = last; running = None }

-- the present incarnation, if the node runs
abbrev pub origin_of : NodeValue → Option Origin
origin_of v = option_map (λ (r : RunningValue). r.origin) v.running

-- the state, if the node runs
abbrev pub state_of : NodeValue → Option StateValue
state_of v = option_map (λ (r : RunningValue). r.state) v.running
