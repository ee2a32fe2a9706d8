use Rattle.std.proofs.Common.{◌≡◌, ◌+◌, length, sum_by, vec_len}
use Rattle.dac_sites.proofs.site.merge_shares.Given as goal

abbrev pub invariant-loop-seat : goal.invariant-loop-seat
invariant-loop-seat g l = record {
  parts : l.all.parts + vec_len l.seats ≡ l.fn.all.parts + vec_len l.fn.seats;
  amount : l.all.amount + sum_by (λ s. length s.calls) l.seats.items ≡ l.fn.all.amount + sum_by (λ s. length s.calls) l.fn.seats.items;
}

abbrev pub decreases-loop-seat : goal.decreases-loop-seat
decreases-loop-seat g l = vec_len l.seats
