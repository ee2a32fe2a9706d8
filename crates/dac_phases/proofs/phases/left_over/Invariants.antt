use Rattle.std.proofs.Common.{◌≡◌, All, [], map, take}
use Rattle.dac_phases.proofs.phases.left_over.Given as goal

abbrev pub invariant-loop-i : goal.invariant-loop-i
invariant-loop-i l = All (λ rs. rs ≡ []) (map (λ r. r.now) (take l.i l.rests))
