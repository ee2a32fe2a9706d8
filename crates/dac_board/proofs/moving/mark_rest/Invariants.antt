use Rattle.std.proofs.Common.{◌≡◌, ℕ, false, length}
use Rattle.dac_lattice.specs.Search.{AtEachKey}
use Rattle.dac_wishes.specs.Keys.{key_cmp}
use Rattle.dac_board.specs.Marks.{is_moved}
use Rattle.dac_board.specs.Alike.{IsAbsent}
use Rattle.dac_board.proofs.moving.mark_rest.Given as goal

abbrev pub invariant-loop-key : goal.invariant-loop-key
invariant-loop-key g l = record {
  before : (k : ℕ × ℕ) → is_moved l.moved k ≡ false → is_moved l.initial.moved k ≡ false;
  gone : (k : ℕ × ℕ) → is_moved l.moved k ≡ false → AtEachKey key_cmp (IsAbsent k) l.left → AtEachKey key_cmp (IsAbsent k) l.fn.entries;
}

abbrev pub decreases-loop-key : goal.decreases-loop-key
decreases-loop-key g l = length l.left
