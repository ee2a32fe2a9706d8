use Rattle.std.proofs.Common.{take}
use Rattle.dac_wishes.proofs.Naming.{HasNamed}
use Rattle.dac_wishes.proofs.delta.named_by.Given as goal

abbrev pub invariant-loop-replaced : goal.invariant-loop-replaced
invariant-loop-replaced l = HasNamed l.fn.dot (take l.replaced-index l.over) l.named
