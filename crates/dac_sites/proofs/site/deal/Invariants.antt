use Rattle.std.proofs.Common.{◌≡◌, ◌+◌}
use Rattle.dac_sites.specs.Seats.{new_seats}
use Rattle.dac_sites.proofs.site.deal.Given as goal

abbrev pub invariant-loop-number : goal.invariant-loop-number
invariant-loop-number g l = record {
  parts : l.rest.parts + l.number ≡ l.count;
  none : l.rest.amount ≡ 0;
  dealt : l.seats.items ≡ new_seats l.number;
}
