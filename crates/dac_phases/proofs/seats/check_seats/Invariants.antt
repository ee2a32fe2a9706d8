use Rattle.std.proofs.Common.{All, length, take}
use Rattle.dac_phases.specs.laws.Common.{JournalValue, AreOfSeats}
use Rattle.dac_phases.proofs.seats.check_seats.Given as goal

abbrev pub invariant-loop-i : goal.invariant-loop-i
invariant-loop-i l = All (λ (j : JournalValue). AreOfSeats (length l.closed) j.records) (take l.i l.closed)
