use Rattle.std.proofs.Common.{◌≡◌, ◌++◌, length}
use Rattle.dac_part_bytes.proofs.Common.{flat_map, Up, key_bytes, keyed_votes_bytes}
use Rattle.dac_part_bytes.proofs.writing.write_permissions.Given as goal

-- the bytes written and those of the remaining entries are all bytes
abbrev pub invariant-loop-key : goal.invariant-loop-key
invariant-loop-key l = l.written ++ flat_map (keyed_votes_bytes (key_bytes l.version) l.version Up) l.left ≡ l.initial.written ++ flat_map (keyed_votes_bytes (key_bytes l.version) l.version Up) l.initial.left

abbrev pub decreases-loop-key : goal.decreases-loop-key
decreases-loop-key l = length l.left
