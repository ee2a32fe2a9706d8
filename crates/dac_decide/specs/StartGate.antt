-- The start gate, after OTP's kernel manual, parameters `sync_nodes_mandatory`, `sync_nodes_optional` and
-- `sync_nodes_timeout`. A booted node waits for all mandatory and optional nodes. The gate opens when all of them are
-- up, or when the timeout has passed and all mandatory ones are up. If it has passed and one of these isn't, the node
-- terminates. Where no time is defined, it doesn't wait.
use Rattle.std.specs.Prelude.{◌≡◌, ◌⊎◌, ℕ, ◌<◌, Bool, IsTrue, not, ◌&&◌, ◌||◌, nat_lt, is_some, if◌then◌else◌, ⊤}
use Rattle.std.specs.List.{list_all}
use Rattle.dac_base.specs.declared.NodeId.{NodeId}
use Rattle.dac_shapes.specs.declared.draft.SyncWait.{SyncWait}
use Rattle.dac_shapes.specs.declared.draft.SyncWait.TheVariants.{NoSync, Forever, Ms}
use Rattle.dac_config.specs.Table.{Table, node_count, is_mandatory, is_optional}
use Rattle.dac_chains.specs.Lives.{IsLive, live_at}
use Rattle.dac_placement.specs.StateValue.{StateValue}
use Rattle.dac_placement.specs.Placement.{nodes_of}
use Rattle.dac_decide.specs.declared.start_gate.Opening.{Opening}
use Rattle.dac_decide.specs.declared.start_gate.Opening.TheVariants.{Shut, Opened, GiveUp}
use Rattle.dac_decide.specs.declared.start_gate.Present.{Present}

-- ---- in words

-- the node is live at some incarnation
abbrev pub IsUpNow : StateValue → NodeId → Type 0
IsUpNow s node = (inc : ℕ) × IsLive s.lives node inc

-- each node of the configuration with this mark is live
abbrev pub AllUp : Table → StateValue → (NodeId → Bool) → Type 0
AllUp table s marked = (node : NodeId) → node.0 < node_count table → IsTrue (marked node) → IsUpNow s node

-- the start gate waits for this node
abbrev pub is_awaited : Table → NodeId → Bool
is_awaited table node = is_mandatory table node || is_optional table node

-- the timeout hasn't passed this many milliseconds after the boot
abbrev pub IsTimeLeft : SyncWait → ℕ → Type 0
IsTimeLeft NoSync elapsed = ⊥
IsTimeLeft Forever elapsed = ⊤
IsTimeLeft (Ms wait) elapsed = elapsed < wait

-- the state of the gate this many milliseconds after the boot
abbrev pub IsOpening : Table → StateValue → ℕ → Opening → Type 0
IsOpening table s elapsed Opened = (table.sync_wait ≡ NoSync)
    ⊎ (AllUp table s (is_awaited table) ⊎ (¬ IsTimeLeft table.sync_wait elapsed × AllUp table s (is_mandatory table)))
IsOpening table s elapsed Shut = IsTimeLeft table.sync_wait elapsed × ¬ AllUp table s (is_awaited table)
IsOpening table s elapsed GiveUp =
    ¬ (table.sync_wait ≡ NoSync) × ¬ IsTimeLeft table.sync_wait elapsed × ¬ AllUp table s (is_mandatory table)

-- ---- as functions

-- the node is live, or the gate doesn't wait for it
abbrev pub is_live_if : StateValue → NodeId → Bool → Bool
is_live_if s node awaited = is_some (live_at s.lives node) || not awaited

-- `AllUp` as a test
abbrev pub all_up : Table → StateValue → (NodeId → Bool) → Bool
all_up table s marked = list_all (λ node. is_live_if s node (marked node)) (nodes_of table)

-- whether the gate's mandatory and optional nodes are live: for one node, and for two sets of nodes together
abbrev pub present_at : Table → StateValue → NodeId → Present
present_at table s node = record { mandatory = is_live_if s node (is_mandatory table node); optional = is_live_if s node (is_optional table node) }

abbrev pub both : Present → Present → Present
both first more = record { mandatory = first.mandatory && more.mandatory; optional = first.optional && more.optional }

-- for all nodes of the configuration
abbrev pub present_of : Table → StateValue → Present
present_of table s =
    record { mandatory = all_up table s (is_mandatory table); optional = all_up table s (is_optional table) }

-- the state of the gate, given which nodes are live
abbrev pub opening_by : SyncWait → Present → ℕ → Opening
opening_by NoSync present elapsed = Opened
opening_by Forever present elapsed = if present.mandatory && present.optional then Opened else Shut
opening_by (Ms wait) present elapsed =
    if present.mandatory && present.optional then Opened
    else if nat_lt elapsed wait then Shut
    else if present.mandatory then Opened
    else GiveUp

-- the state of the gate this many milliseconds after the boot
abbrev pub opening_of : Table → StateValue → ℕ → Opening
opening_of table s elapsed = opening_by table.sync_wait (present_of table s) elapsed
