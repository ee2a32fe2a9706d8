use Rattle.std.proofs.Common.{◌≡◌}
use Rattle.dac_board.specs.Boards.{spot_of}
use Rattle.dac_placement.specs.laws.FirstChoice.{numbered}
use Rattle.dac_board.proofs.Filling.{filled}
use Rattle.dac_board.proofs.row.Row.new.Given as goal

abbrev pub invariant-loop-number : goal.invariant-loop-number
invariant-loop-number l = l.spots.items ≡ filled numbered (spot_of l.config l.state l.app) l.number
