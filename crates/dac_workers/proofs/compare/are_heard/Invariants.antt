use Rattle.std.proofs.Common.{◌≡◌, ◌≤◌, take, map, length}
use Rattle.dac_workers.specs.laws.Common.{Hear, found, event_one}
use Rattle.dac_workers.proofs.compare.are_heard.Given as goal

abbrev pub invariant-loop-i : goal.invariant-loop-i
invariant-loop-i l = record {
  within : l.next ≤ length l.sent;
  same : found (event_one l.seat) (take l.i l.records) ≡ take l.next (map (λ m. Hear m.now) l.sent);
}
