use Rattle.std.proofs.Common.{◌≡◌, ◌++◌, length}
use Rattle.dac_part_bytes.proofs.Common.{flat_map, Down, origin_bytes, Two, keyed_votes_bytes}
use Rattle.dac_part_bytes.proofs.writing.write_all_drains.Given as goal

-- the bytes written and those of the remaining entries are all bytes
abbrev pub invariant-loop-at : goal.invariant-loop-at
invariant-loop-at l = l.written ++ flat_map (keyed_votes_bytes (origin_bytes Two) Two Down) l.left ≡ l.initial.written ++ flat_map (keyed_votes_bytes (origin_bytes Two) Two Down) l.initial.left

abbrev pub decreases-loop-at : goal.decreases-loop-at
decreases-loop-at l = length l.left
