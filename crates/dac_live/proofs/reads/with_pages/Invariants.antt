use Rattle.std.proofs.Common.{◌≡◌, ◌++◌, take, map, zip}
use Rattle.dac_live.proofs.Common.{found, page_one}
use Rattle.dac_live.proofs.reads.with_pages.Given as goal

abbrev pub invariant-loop-i : goal.invariant-loop-i
invariant-loop-i l = map (λ p. p.now) l.all.items ≡ map (λ p. p.now) l.initial.all.items ++ found (page_one l.node.0) (take l.i (zip l.lines l.reads))
