-- Where applications run, candidates and verdicts, computed from the rows of any board. For a board that shows a state they
-- agree with the definitions of placement.
use Rattle.std.specs.Prelude.{ℕ, Bool, false, ◌&&◌, ◌==◌, List, [], length, get_or, slice_get, Option, None, is_some}
use Rattle.std.specs.Option.{option_map, option_map_or}
use Rattle.dac_base.specs.declared.NodeId.{NodeId}
use Rattle.dac_base.specs.declared.AppId.{AppId}
use Rattle.dac_placement.specs.declared.standing.Standing.{Standing}
use Rattle.dac_placement.specs.declared.standing.Standing.TheVariants.{Unclaimed, Lost, Stopped, Barred, Upheld}
use Rattle.dac_placement.specs.declared.verdicts.Verdict.{Verdict}
use Rattle.dac_placement.specs.declared.verdicts.Verdict.TheVariants.{Nobody}
use Rattle.dac_placement.specs.declared.ranking.Choice.{Choice}
use Rattle.dac_placement.specs.Choices.{choice_by, load_by, verdict_on}
use Rattle.dac_board.specs.declared.spot.Spot.{Spot}
use Rattle.dac_board.specs.Boards.{RowValue}

abbrev pub no_row : RowValue
no_row = record { spots = []; standing = Unclaimed; group = None }

-- the application is upheld at the node, and its list names the node
abbrev pub holds_at : NodeId → Option ℕ → Standing → Bool
holds_at node group Unclaimed = false
holds_at node group Lost = false
holds_at node group (Stopped n) = false
holds_at node group Barred = false
holds_at node group (Upheld n) = (n.0 == node.0) && is_some group

abbrev pub row_runs : NodeId → RowValue → Bool
row_runs node row = holds_at node row.group row.standing

-- the row of an application
abbrev pub row_at : List RowValue → AppId → RowValue
row_at rows app = get_or rows app.0 no_row

-- where applications run
abbrev pub runs_on : List RowValue → AppId → NodeId → Bool
runs_on rows app node = row_runs node (row_at rows app)

-- the group of a node if it is eligible
abbrev pub group_in : Option Spot → Option ℕ
group_in spot = option_map (λ (p : Spot). p.group) spot

abbrev pub group_on : List (Option Spot) → NodeId → Option ℕ
group_on spots node = group_in (get_or spots node.0 None)

abbrev pub is_on : List (Option Spot) → NodeId → Bool
is_on spots node = is_some (group_on spots node)

-- the first choice for an application with these eligible nodes
abbrev pub first_on : List RowValue → AppId → List (Option Spot) → Option Choice
first_on rows app spots = choice_by (group_on spots) (is_on spots) (load_by (runs_on rows) (length rows) app) (length spots)

-- the verdict of an application, by its row and those of the others
abbrev pub row_verdict : List RowValue → AppId → Verdict
row_verdict rows app = option_map_or
    (λ (row : RowValue). verdict_on row.standing row.group (first_on rows app row.spots)) (slice_get rows app.0) Nobody
