use Rattle.std.proofs.Common.{take, zip}
use Rattle.dac_live.proofs.Common.{found, own_one, Follows}
use Rattle.dac_live.proofs.receipts.follow_phase.Given as goal

abbrev pub invariant-loop-i : goal.invariant-loop-i
invariant-loop-i l = Follows l.spans l.asked l.next (found (own_one l.node.0 l.caller) (take l.i (zip l.lines (zip l.answers l.reads))))
