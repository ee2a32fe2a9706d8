use Rattle.std.proofs.Common.{◌≡◌, ◌+◌, ◌≤◌, drop}
use Rattle.dac_phases.specs.Ends.{first_letters}
use Rattle.dac_phases.proofs.phases.letters_of.Given as goal

abbrev pub invariant-loop-i : goal.invariant-loop-i
invariant-loop-i l = record { counted : l.letters + first_letters l.seat l.left (drop l.i l.records) ≡ first_letters l.seat 5 l.records; few : l.letters + l.left ≤ 5 }
