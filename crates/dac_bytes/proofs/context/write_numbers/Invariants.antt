use Rattle.std.proofs.Common.{◌≡◌, ◌++◌, take}
use Rattle.std.specs.List.{flat_map}
use Rattle.dac_bytes.specs.Numbers.{u64_bytes}
use Rattle.dac_bytes.proofs.context.write_numbers.Given as goal

abbrev pub invariant-loop-n : goal.invariant-loop-n
invariant-loop-n l = l.writer ≡ l.initial.writer ++ flat_map u64_bytes (take l.n-index l.numbers)
