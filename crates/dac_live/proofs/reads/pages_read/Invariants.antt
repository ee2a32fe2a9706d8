use Rattle.std.proofs.Common.{◌≡◌, List, Option, take, map, zip, flat_map}
use Rattle.dac_live.proofs.Common.{Page, Phase, pages_in}
use Rattle.dac_live.proofs.reads.pages_read.Given as goal

abbrev pub invariant-loop-i : goal.invariant-loop-i
invariant-loop-i l = map (λ p. p.now) l.all.items ≡ flat_map (λ (q : Phase × List (Option Page)). pages_in l.node.0 q.0.lines.items q.1) (take l.i (zip l.phases l.reads))
