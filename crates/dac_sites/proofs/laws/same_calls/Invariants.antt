use Rattle.std.proofs.Common.{◌≡◌, ◌≤◌, length, take}
use Rattle.dac_sites.specs.laws.Common.{calls_of}
use Rattle.dac_sites.proofs.laws.same_calls.Given as goal

abbrev pub invariant-loop-i : goal.invariant-loop-i
invariant-loop-i l = record { within : l.next ≤ length l.calls; same : calls_of l.seat (take l.i l.records) ≡ take l.next l.calls }
