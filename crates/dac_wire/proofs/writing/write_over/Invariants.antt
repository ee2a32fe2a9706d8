use Rattle.std.proofs.Common.{◌≡◌, ◌++◌, take}
use Rattle.dac_wire.specs.laws.Common.{dot_bytes, Two}
use Rattle.std.specs.List.{flat_map}
use Rattle.dac_wire.proofs.writing.write_over.Given as goal

abbrev pub invariant-loop-dot : goal.invariant-loop-dot
invariant-loop-dot l = l.written ≡ l.initial.written ++ flat_map (dot_bytes Two) (take l.dot-index l.over)
