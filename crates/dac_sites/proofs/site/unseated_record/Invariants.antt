use Rattle.std.proofs.Common.{take, All}
use Rattle.dac_sites.specs.laws.Common.{IsOneOf}
use Rattle.dac_sites.proofs.site.unseated_record.Given as goal

abbrev pub invariant-loop-i : goal.invariant-loop-i
invariant-loop-i g l = All (λ r. IsOneOf r.seat (λ s. s.number) l.seats) (take l.i l.records)
