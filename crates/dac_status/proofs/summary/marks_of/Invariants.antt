use Rattle.std.proofs.Common.{◌≡◌, map}
use Rattle.dac_status.proofs.Common.{range_with_len, MAX_NODES, Down, placed, mark_of, IsBefore, first_key}
use Rattle.dac_status.proofs.Places.{node_numbered}
use Rattle.dac_status.proofs.summary.marks_of.Given as goal

abbrev pub invariant-loop-number : goal.invariant-loop-number
invariant-loop-number l = record {
  marks : l.marks ≡ placed MAX_NODES Down (map (mark_of l.config l.initial.walk.state l.app) (map node_numbered (range_with_len 0 l.number)));
  state : l.walk.state ≡ l.initial.walk.state;
  before : IsBefore (first_key l.app.0 l.number) l.walk;
}
