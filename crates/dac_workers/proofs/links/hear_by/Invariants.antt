use Rattle.std.proofs.Common.{◌≡◌, []}
use Rattle.dac_workers.specs.laws.Common.{view, Hears}
use Rattle.crossbeam_channel.specs.Ends.{receives_on}
use Rattle.dac_workers.proofs.links.hear_by.Given as goal

abbrev pub invariant-loop : goal.invariant-loop
invariant-loop g l = record {
  number : l.seat.number ≡ l.initial.seat.number;
  same : receives_on l.link.end ≡ receives_on l.initial.link.end;
  hears : Hears l.config l.initial.seat.calls l.seat.calls (view l.initial.link.pass).taken (view l.link.pass).taken [];
}
