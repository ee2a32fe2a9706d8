use Rattle.std.proofs.Common.{◌≡◌, ◌+◌, ◌<◌, ◌≤◌, ℕ, length, get_or}
use Rattle.std.specs.Prelude.{map as list_map}
use Rattle.std.specs.List.{range_with_len, sum_by}
use Rattle.dac_config.specs.Table.{app_count}
use Rattle.dac_board.specs.Boards.{row_of, rows_of}
use Rattle.dac_board.specs.Rows.{no_row}
use Rattle.dac_board.specs.Touched.{touched_of}
use Rattle.dac_placement.specs.laws.Counting.{numbered_app}
use Rattle.dac_board.proofs.board.Board.absorb.Given as goal

abbrev pub invariant-loop-place : goal.invariant-loop-place
invariant-loop-place l = record {
  long : length l.self-inside.rows.items ≡ length l.initial.self-inside.rows.items;
  done : l.initial.self-inside.rows.items ≡ rows_of l.config l.old → (k : ℕ) → k < l.place → get_or l.self-inside.rows.items k no_row ≡ row_of l.config l.new (numbered_app k);
  left : l.initial.self-inside.rows.items ≡ rows_of l.config l.old → (k : ℕ) → l.place ≤ k → k < app_count l.config → get_or l.self-inside.rows.items k no_row ≡ row_of l.config l.old (numbered_app k);
  few : l.looked ≤ l.initial.looked + sum_by (touched_of l.config l.old l.new) (list_map numbered_app (range_with_len 0 l.place));
  rises : l.initial.looked ≤ l.looked;
}
