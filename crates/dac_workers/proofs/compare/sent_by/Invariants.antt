use Rattle.std.proofs.Common.{◌≡◌, take, map}
use Rattle.dac_workers.specs.laws.Common.{found, sent_one}
use Rattle.dac_workers.proofs.compare.sent_by.Given as goal

abbrev pub invariant-loop-i : goal.invariant-loop-i
invariant-loop-i l = map (λ m. m.now) l.all.items ≡ found (sent_one l.seat) (take l.i l.records)
