use Rattle.std.proofs.Common.{◌≡◌, ◌++◌, length}
use Rattle.dac_part_bytes.proofs.Common.{flat_map, in_order, keyed_dots_bytes}
use Rattle.dac_part_bytes.proofs.writing.write_wishes.Given as goal

-- the bytes written and those of the remaining entries are all bytes
abbrev pub invariant-loop-key : goal.invariant-loop-key
invariant-loop-key l = l.written ++ flat_map (λ e. keyed_dots_bytes l.version (e.0, in_order e.1)) l.left ≡ l.initial.written ++ flat_map (λ e. keyed_dots_bytes l.version (e.0, in_order e.1)) l.initial.left

abbrev pub decreases-loop-key : goal.decreases-loop-key
decreases-loop-key l = length l.left
