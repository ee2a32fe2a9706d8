use Rattle.std.proofs.Common.{◌≡◌, map, take}
use Rattle.dac_phases.proofs.phases.records_of.Given as goal

abbrev pub invariant-loop-i : goal.invariant-loop-i
invariant-loop-i l = map (λ rs. rs.now) l.all.items ≡ map (λ j. j.records) (take l.i l.closed)
