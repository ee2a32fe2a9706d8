use Rattle.std.proofs.Common.{◌≡◌, take}
use Rattle.dac_deltas.proofs.blocks.copy_all.Given as goal

abbrev pub invariant-loop-value : goal.invariant-loop-value
invariant-loop-value g l = l.copied.items ≡ take l.value-index l.values
