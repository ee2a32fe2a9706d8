use Rattle.std.proofs.Common.{◌≡◌, ◌++◌, take}
use Rattle.dac_sorted.proofs.parts.append_copies.Given as goal

abbrev pub invariant-loop-key : goal.invariant-loop-key
invariant-loop-key g l = l.list.items ≡ l.fn.list.items ++ take l.key-index l.entries
