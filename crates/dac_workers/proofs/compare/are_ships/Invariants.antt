use Rattle.std.proofs.Common.{◌≡◌, ◌≤◌, take}
use Rattle.dac_workers.specs.laws.Common.{found, event_one, ships_to}
use Rattle.dac_workers.proofs.compare.are_ships.Given as goal

abbrev pub invariant-loop-i : goal.invariant-loop-i
invariant-loop-i l = record {
  within : l.count ≤ l.i;
  same : found (event_one l.seat) (take l.i l.records) ≡ ships_to l.to l.count;
}
