use Rattle.std.proofs.Common.{List, Option, take, zip, flat_map}
use Rattle.dac_live.proofs.Common.{Page, Phase, LineAnswer, own_in, Follows}
use Rattle.dac_live.proofs.receipts.caller_follows.Given as goal

abbrev pub invariant-loop-i : goal.invariant-loop-i
invariant-loop-i l = Follows l.spans.items 0 l.asked (flat_map (λ (p : Phase × (List LineAnswer × List (Option Page))). own_in l.node.0 l.caller p.0.lines.items p.1.0 p.1.1) (take l.i (zip l.phases (zip l.answers l.reads))))
