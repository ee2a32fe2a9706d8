use Rattle.std.proofs.Common.{◌≡◌}
use Rattle.dac_live.proofs.Common.{AllWithin}
use Rattle.dac_live.proofs.histories.passed.Given as goal

abbrev pub invariant-loop-i : goal.invariant-loop-i
invariant-loop-i l = AllWithin (λ p. p.now ≡ l.there) l.reads l.from l.i
