use Rattle.std.proofs.Common.{◌≡◌, map, take}
use Rattle.dac_phases.specs.Ends.{ends_before}
use Rattle.dac_phases.proofs.ends.ends_before.Given as goal

abbrev pub invariant-loop-i : goal.invariant-loop-i
invariant-loop-i l = l.row.items ≡ ends_before (map (λ j. j.records) (take l.i l.closed)) (map (λ r. r.now) (take l.i l.rests))
