use Rattle.std.proofs.Common.{◌≢◌, take, All}
use Rattle.dac_sites.proofs.site.seat_at.Given as goal

abbrev pub invariant-loop-i : goal.invariant-loop-i
invariant-loop-i g l = All (λ s. s.number ≢ l.number) (take l.i l.seats)
