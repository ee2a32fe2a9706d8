use Rattle.std.proofs.Common.{◌≡◌, ◌++◌, take}
use Rattle.dac_weave.proofs.merge.append_issued.Given as goal

abbrev pub invariant-loop-operation : goal.invariant-loop-operation
invariant-loop-operation l = l.operations ≡ l.initial.operations ++ take l.operation-index l.operation-items
