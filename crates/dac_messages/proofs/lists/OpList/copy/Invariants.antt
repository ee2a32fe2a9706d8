use Rattle.std.proofs.Common.{◌≡◌, take}
use Rattle.dac_messages.proofs.lists.OpList.copy.Given as goal

abbrev pub invariant-loop-operation : goal.invariant-loop-operation
invariant-loop-operation l = l.operations.items ≡ take l.operation-index l.operation-items
