use Rattle.std.proofs.Common.{◌≡◌, take}
use Rattle.dac_node.proofs.Common.{meanings}
use Rattle.dac_node.proofs.ticking.deltas_of.Given as goal

abbrev pub invariant-loop-operation : goal.invariant-loop-operation
invariant-loop-operation l = l.deltas.items ≡ meanings (take l.operation-index l.operations)
