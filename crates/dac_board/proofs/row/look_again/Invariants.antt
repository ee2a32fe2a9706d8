use Rattle.std.proofs.Common.{◌≡◌, ◌+◌, ◌<◌, ◌≤◌, ℕ, length, get_or, None}
use Rattle.std.specs.Prelude.{map as list_map}
use Rattle.dac_config.specs.Table.{node_count}
use Rattle.dac_placement.specs.Placement.{nodes_of}
use Rattle.dac_board.specs.Boards.{spot_of}
use Rattle.dac_board.specs.Touched.{is_touched}
use Rattle.dac_board.specs.Grown.{IsGrown}
use Rattle.dac_placement.specs.laws.FirstChoice.{numbered}
use Rattle.dac_board.proofs.Filling.{passed}
use Rattle.dac_board.proofs.row.look_again.Given as goal

abbrev pub invariant-loop-place : goal.invariant-loop-place
invariant-loop-place l = record {
  long : length l.spots.items ≡ length l.fn.spots.items;
  done : IsGrown l.change l.app → l.fn.spots.items ≡ list_map (spot_of l.config l.change.old.now l.app) (nodes_of l.config) → (k : ℕ) → k < l.place → get_or l.spots.items k None ≡ spot_of l.config l.change.new.now l.app (numbered k);
  left : IsGrown l.change l.app → l.fn.spots.items ≡ list_map (spot_of l.config l.change.old.now l.app) (nodes_of l.config) → (k : ℕ) → l.place ≤ k → k < node_count l.config → get_or l.spots.items k None ≡ spot_of l.config l.change.old.now l.app (numbered k);
  few : l.looked ≤ l.fn.looked + passed numbered (is_touched l.config l.change.old.now l.change.new.now l.app) l.place;
  rises : l.fn.looked ≤ l.looked;
}
