use Rattle.std.proofs.Common.{◌≡◌, ◌≤◌, length, take}
use Rattle.dac_phases.specs.laws.Common.{found}
use Rattle.dac_phases.specs.Ends.{call_one}
use Rattle.dac_phases.proofs.phases.calls_at.Given as goal

abbrev pub invariant-loop-i : goal.invariant-loop-i
invariant-loop-i l = record { counted : l.count ≡ length (found (call_one l.node.0) (take l.i l.lines)); few : l.count ≤ l.i }
