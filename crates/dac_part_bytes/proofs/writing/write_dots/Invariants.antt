use Rattle.std.proofs.Common.{◌≡◌, ◌++◌, take}
use Rattle.dac_part_bytes.proofs.Common.{flat_map, dot_bytes}
use Rattle.dac_part_bytes.proofs.writing.write_dots.Given as goal

abbrev pub invariant-loop-dot : goal.invariant-loop-dot
invariant-loop-dot l = l.written ≡ l.initial.written ++ flat_map (dot_bytes l.version) (take l.dot-index l.dots)
