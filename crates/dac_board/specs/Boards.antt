-- Boards. A board stores the standing of each application at its holder and its eligible nodes. It shows a state if
-- these are what the definitions of placement say of that state; then it has the state's verdicts and loads.
use Rattle.std.specs.Prelude.{◌≡◌, ℕ, Bool, true, false, List, map as list_map, Option, None, if◌then◌else◌}
use Rattle.std.specs.Option.{option_map}
use Rattle.dac_base.specs.declared.NodeId.{NodeId}
use Rattle.dac_base.specs.declared.AppId.{AppId}
use Rattle.dac_config.specs.Table.{Table, group_of}
use Rattle.dac_meaning.specs.StateValue.{StateValue}
use Rattle.dac_placement.specs.declared.standing.Standing.{Standing}
use Rattle.dac_placement.specs.declared.standing.Standing.TheVariants.{Unclaimed, Lost, Stopped, Barred, Upheld}
pub use Rattle.dac_placement.specs.Placement.{group_held}
use Rattle.dac_placement.specs.Placement.{is_eligible, standing_of, apps_of, nodes_of}
use Rattle.dac_board.specs.declared.spot.Spot.{Spot}

-- one application: node by node the group of each eligible one, its standing, and the group of the holder if it is
-- upheld
pub record RowValue : Type 0 where
  pub spots : List (Option Spot)
  pub standing : Standing
  pub group : Option ℕ

-- the applications in the order of the file, and the number of evaluations of a pair
pub record BoardValue : Type 0 where
  pub rows : List RowValue
  pub looked : ℕ

-- the node with its group, if it is eligible
abbrev pub spot_of : Table → StateValue → AppId → NodeId → Option Spot
spot_of table s app node =
    if is_eligible table s app node then option_map (λ group. record { group = group; node = node }) (group_of table app node)
    else None

abbrev pub spots_of : Table → StateValue → AppId → List (Option Spot)
spots_of table s app = list_map (spot_of table s app) (nodes_of table)

-- whether the holder's incarnation isn't live
abbrev pub is_lost_at : Standing → Bool
is_lost_at Unclaimed = false
is_lost_at Lost = true
is_lost_at (Stopped n) = false
is_lost_at Barred = false
is_lost_at (Upheld n) = false

-- the row of an application in a board that shows the state
abbrev pub row_of : Table → StateValue → AppId → RowValue
row_of table s app = record {
  spots = spots_of table s app;
  standing = standing_of table s app;
  group = group_held table app (standing_of table s app);
}

abbrev pub rows_of : Table → StateValue → List RowValue
rows_of table s = list_map (row_of table s) (apps_of table)

-- The board shows the state under the configuration: each row is what the definitions say of its application.
abbrev pub Shows : Table → BoardValue → StateValue → Type 0
Shows table board s = board.rows ≡ rows_of table s
