use Rattle.std.proofs.Common.{◌≡◌, length}
use Rattle.dac_board.proofs.moving.same_drains.Given as goal

abbrev pub invariant-loop-one : goal.invariant-loop-one
invariant-loop-one l = l.before ≡ l.after → l.fn.old ≡ l.fn.new

abbrev pub decreases-loop-one : goal.decreases-loop-one
decreases-loop-one l = length l.before
