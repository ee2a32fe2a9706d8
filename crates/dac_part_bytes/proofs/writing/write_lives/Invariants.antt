use Rattle.std.proofs.Common.{◌≡◌, ◌++◌, take}
use Rattle.dac_part_bytes.proofs.Common.{flat_map, life_bytes}
use Rattle.dac_part_bytes.proofs.writing.write_lives.Given as goal

abbrev pub invariant-loop-node : goal.invariant-loop-node
invariant-loop-node l = l.written ≡ l.initial.written ++ flat_map (λ e. life_bytes l.version (e.0, e.1.value)) (take l.node-index l.entries)
