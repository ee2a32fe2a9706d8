-- The summary of a controller's state: how much it has heard and the life of each node; for each application its
-- greatest claim, its verdict and the mark of each node. (This project's own.)
use Rattle.std.specs.Prelude.{ℕ, ◌-◌, Bool, false, not, List, ◌++◌, length, map as list_map, replicate, Option, None, Some, if◌then◌else◌}
use Rattle.std.specs.Option.{option_and_then, option_map_or}
use Rattle.std.specs.FinSet as set
use Rattle.std.specs.FinMap as map
use Rattle.dac_base.specs.declared.limits.TheConstants.{MAX_APPS, MAX_NODES}
use Rattle.dac_base.specs.declared.NodeId.{NodeId}
use Rattle.dac_base.specs.declared.AppId.{AppId}
use Rattle.dac_config.specs.Table.{Table}
use Rattle.dac_chains.specs.declared.lives.Life.{Life}
use Rattle.dac_chains.specs.Lives.{IsLive, if_up, live_at}
use Rattle.dac_meaning.specs.StateValue.{StateValue}
use Rattle.dac_placement.specs.declared.verdicts.Verdict.TheVariants.{Nobody}
use Rattle.dac_placement.specs.Placement.{IsPermittedAt, is_permitted_at, IsDrainedAt, is_drained_at, IsStartedAt, is_started_at, key_at, nodes_of, apps_of, verdict_of}
use Rattle.dac_status.specs.declared.marks.Mark.{Mark}
use Rattle.dac_status.specs.declared.marks.Mark.TheVariants.{Down, Barred, Drained, Idle, Ok}
use Rattle.dac_status.specs.declared.summary.AppSummary.{AppSummary}
use Rattle.dac_status.specs.declared.summary.Summary.{Summary}

-- these items, followed by blanks so that there is one item for each place
unfoldable pub placed : {T : Type 0} → ℕ → T → List T → List T
placed places blank items = items ++ replicate (places - length items) blank

-- ---- marks

-- The mark of a node for an application: the first obstacle to running it there. The node isn't live, the application
-- isn't permitted there, the node is drained, or the application wasn't started there. `Ok` means no obstacle.
abbrev pub IsMark : Table → StateValue → AppId → NodeId → Mark → Type 0
IsMark table s app node Down = (inc : ℕ) → ¬ IsLive s.lives node inc
IsMark table s app node Barred = (inc : ℕ) × IsLive s.lives node inc × ¬ IsPermittedAt table s (key_at app node inc)
IsMark table s app node Drained =
    (inc : ℕ) × IsLive s.lives node inc × IsPermittedAt table s (key_at app node inc) × IsDrainedAt s node inc
IsMark table s app node Idle = (inc : ℕ) × IsLive s.lives node inc × IsPermittedAt table s (key_at app node inc)
    × ¬ (IsDrainedAt s node inc) × ¬ IsStartedAt s (key_at app node inc)
IsMark table s app node Ok = (inc : ℕ) × IsLive s.lives node inc × IsPermittedAt table s (key_at app node inc)
    × ¬ (IsDrainedAt s node inc) × IsStartedAt s (key_at app node inc)

-- the mark of a node that is live at this incarnation, or isn't live
abbrev pub mark_at : Table → StateValue → AppId → NodeId → Option ℕ → Mark
mark_at table s app node None = Down
mark_at table s app node (Some inc) =
    if not (is_permitted_at table s (key_at app node inc)) then Barred
    else (if is_drained_at s node inc then Drained
    else (if not (is_started_at s (key_at app node inc)) then Idle
    else Ok))

abbrev pub mark_of : Table → StateValue → AppId → NodeId → Mark
mark_of table s app node = mark_at table s app node (live_at s.lives node)

-- the marks of the nodes by their numbers
abbrev pub marks_of : Table → StateValue → AppId → List Mark
marks_of table s app = placed MAX_NODES Down (list_map (mark_of table s app) (nodes_of table))

-- ---- summaries

-- the lives of the nodes by their numbers
abbrev pub lives_of : Table → StateValue → List (Option Life)
lives_of table s = placed MAX_NODES None (list_map (map.get s.lives) (nodes_of table))

-- the incarnation of a life that is up
abbrev pub live_in : Option Life → Option ℕ
live_in life = option_and_then (λ (l : Life). if_up l.inc l.flag) life

-- the node is drained at this incarnation, if there is one
abbrev pub drains : StateValue → NodeId → Option ℕ → Bool
drains s node live = option_map_or (is_drained_at s node) live false

-- the node is live at an incarnation that is drained
abbrev pub drains_live : StateValue → NodeId → Bool
drains_live s node = drains s node (live_at s.lives node)

-- whether each node is live and drained, by the nodes' numbers
abbrev pub drained_of : Table → StateValue → List Bool
drained_of table s = placed MAX_NODES false (list_map (drains_live s) (nodes_of table))

-- the greatest claim of an application, its verdict, and the mark of each node
abbrev pub app_summary : Table → StateValue → AppId → AppSummary
app_summary table s app =
    record { claim = map.get s.claims app; verdict = verdict_of table s app; marks = marks_of table s app }

-- the value in the place of an application that the configuration lacks
abbrev pub no_app : AppSummary
no_app = record { claim = None; verdict = Nobody; marks = replicate MAX_NODES Down }

-- the applications by their numbers
abbrev pub app_summaries : Table → StateValue → List AppSummary
app_summaries table s = placed MAX_APPS no_app (list_map (app_summary table s) (apps_of table))

-- The summary of a state: how many dots it has heard and knows, the life of each node of the configuration, whether
-- each is drained, and each of its applications
abbrev pub summary_of : Table → StateValue → Summary
summary_of table s = record {
  heard = set.len s.heard;
  known = set.len s.known;
  lives = lives_of table s;
  drained = drained_of table s;
  apps = app_summaries table s;
}
