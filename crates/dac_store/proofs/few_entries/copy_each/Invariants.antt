use Rattle.std.proofs.Common.{◌≡◌, take}
use Rattle.dac_store.proofs.few_entries.copy_each.Given as goal

abbrev pub invariant-loop-dot : goal.invariant-loop-dot
invariant-loop-dot g l = l.copied.items ≡ take l.dot-index l.entries
