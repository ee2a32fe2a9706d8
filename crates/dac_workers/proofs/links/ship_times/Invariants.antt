use Rattle.std.proofs.Common.{◌≡◌, []}
use Rattle.dac_workers.specs.laws.Common.{view, Ships}
use Rattle.crossbeam_channel.specs.Ends.{sends_on}
use Rattle.dac_workers.proofs.links.ship_times.Given as goal

abbrev pub invariant-loop-count : goal.invariant-loop-count
invariant-loop-count g l = record {
  number : l.seat.number ≡ l.initial.seat.number;
  link : sends_on l.out.end ≡ sends_on l.initial.out.end;
  ships : Ships l.config l.to l._count l.initial.seat.calls l.seat.calls (view l.initial.out.pass).put (view l.out.pass).put [];
}
