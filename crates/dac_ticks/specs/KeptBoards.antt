-- A board that is maintained from tick to tick, and the parts of a configuration on which boards depend.
use Rattle.std.specs.Prelude.{◌≡◌, ◌<◌}
use Rattle.dac_base.specs.declared.NodeId.{NodeId}
use Rattle.dac_base.specs.declared.AppId.{AppId}
use Rattle.dac_config.specs.Table.{Table, node_count, app_count, group_of, default_permission}
use Rattle.dac_meaning.specs.StateValue.{StateValue}
use Rattle.dac_board.specs.Boards.{BoardValue, Shows}

-- a board, and a configuration under which it shows a state
pub record KeptBoardValue : Type 0 where
  pub config : Table
  pub board : BoardValue

-- the board shows the state
abbrev pub IsBoardOf : KeptBoardValue → StateValue → Type 0
IsBoardOf kept s = Shows kept.config kept.board s

-- both configurations have the same default permission for the application, and the same group of each node
pub record AreAlikeFor (t u : Table) (app : AppId) : Type 0 where
  pub permission : default_permission t app ≡ default_permission u app
  pub groups : (node : NodeId) → node.0 < node_count t → group_of t app node ≡ group_of u app node

-- the configurations have the same number of nodes and of applications, and are alike for each application
pub record AreAlike (t u : Table) : Type 0 where
  pub nodes : node_count t ≡ node_count u
  pub apps : app_count t ≡ app_count u
  pub each : (app : AppId) → app.0 < app_count t → AreAlikeFor t u app

-- a board that shows a state under the first configuration also shows it under the second
abbrev pub GoesFor : Table → Table → Type 0
GoesFor t u = (board : BoardValue) (s : StateValue) → Shows t board s → Shows u board s
