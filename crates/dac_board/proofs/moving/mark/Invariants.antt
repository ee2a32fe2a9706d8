use Rattle.std.proofs.Common.{◌≡◌, ℕ, ◌+◌, false, length}
use Rattle.dac_board.specs.Marks.{is_moved}
use Rattle.dac_board.specs.Alike.{IsSameOf}
use Rattle.dac_board.proofs.moving.mark.Given as goal

abbrev pub invariant-walk : goal.invariant-walk
invariant-walk g l = record {
  marked : (k : ℕ × ℕ) → is_moved l.moved k ≡ false → is_moved l.initial.moved k ≡ false;
  same : (k : ℕ × ℕ) → is_moved l.moved k ≡ false → IsSameOf k l.before l.after → IsSameOf k l.fn.old l.fn.new;
}

abbrev pub decreases-walk : goal.decreases-walk
decreases-walk g l = length l.before + length l.after
