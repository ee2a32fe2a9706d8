use Rattle.std.proofs.Common.{◌≡◌}
use Rattle.dac_board.specs.Boards.{row_of}
use Rattle.dac_placement.specs.laws.Counting.{numbered_app}
use Rattle.dac_board.proofs.Filling.{filled}
use Rattle.dac_board.proofs.board.Board.new.Given as goal

abbrev pub invariant-loop-number : goal.invariant-loop-number
invariant-loop-number l = l.rows.items ≡ filled numbered_app (row_of l.config l.state) l.number
