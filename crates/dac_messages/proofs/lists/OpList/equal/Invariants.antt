use Rattle.std.proofs.Common.{◌≡◌, take}
use Rattle.dac_messages.proofs.lists.OpList.equal.Given as goal

abbrev pub invariant-loop-i : goal.invariant-loop-i
invariant-loop-i l = take l.i l.self-inside.operations.items ≡ take l.i l.other-inside.operations.items
