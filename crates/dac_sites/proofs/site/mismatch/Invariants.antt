use Rattle.std.proofs.Common.{◌≡◌, take, All}
use Rattle.dac_sites.specs.laws.Common.{calls_of}
use Rattle.dac_sites.proofs.site.mismatch.Given as goal

abbrev pub invariant-loop-seat : goal.invariant-loop-seat
invariant-loop-seat g l = All (λ s. calls_of s.number l.records ≡ s.calls) (take l.seat-index l.seats)
