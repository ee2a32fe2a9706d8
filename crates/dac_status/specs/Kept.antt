-- Eligible nodes by their marks, and the node at which each application runs.
use Rattle.std.specs.Prelude.{◌==◌, Bool, true, false, List, get_or, map as list_map, Option, None}
use Rattle.std.specs.Option.{option_map_or}
use Rattle.std.specs.FinMap as map
use Rattle.dac_base.specs.declared.limits.TheConstants.{MAX_APPS}
use Rattle.dac_base.specs.declared.AppId.{AppId}
use Rattle.dac_base.specs.declared.NodeId.{NodeId}
use Rattle.dac_config.specs.Table.{Table}
use Rattle.dac_meaning.specs.StateValue.{StateValue}
use Rattle.dac_placement.specs.declared.verdicts.Verdict.TheVariants.{Nobody}
use Rattle.dac_placement.specs.Placement.{apps_of, runner_of}
use Rattle.dac_status.specs.declared.marks.Mark.{Mark}
use Rattle.dac_status.specs.declared.marks.Mark.TheVariants.{Down, Barred, Drained, Idle, Ok}
use Rattle.dac_status.specs.declared.summary.AppSummary.{AppSummary}
use Rattle.dac_status.specs.Summaries.{marks_of, no_app, placed}

-- a node of this mark is eligible, if the application's list names it
abbrev pub is_ok : Mark → Bool
is_ok Down = false
is_ok Barred = false
is_ok Drained = false
is_ok Idle = false
is_ok Ok = true

-- an application of this runner runs at the node
abbrev pub is_there : Option NodeId → NodeId → Bool
is_there runner node = option_map_or (λ (at : NodeId). at.0 == node.0) runner false

-- where applications of these runners run
abbrev pub runs_in : List (Option NodeId) → AppId → NodeId → Bool
runs_in runners app node = is_there (get_or runners app.0 None) node

-- the node at which each application runs, if any, by the applications' numbers
abbrev pub runners_of : Table → StateValue → List (Option NodeId)
runners_of table s = placed MAX_APPS None (list_map (runner_of table s) (apps_of table))

-- an application without its verdict
abbrev pub app_begun : Table → StateValue → AppId → AppSummary
app_begun table s app = record { claim = map.get s.claims app; verdict = Nobody; marks = marks_of table s app }

-- the applications without their verdicts, by their numbers
abbrev pub apps_begun : Table → StateValue → List AppSummary
apps_begun table s = placed MAX_APPS no_app (list_map (app_begun table s) (apps_of table))
