use Rattle.std.proofs.Common.{◌≡◌, ◌+◌, ◌-◌, ◌^◌, length, map, min, take}
use Rattle.dac_phases.specs.laws.Common.{found}
use Rattle.dac_phases.specs.Ends.{call_one, link_records}
use Rattle.dac_phases.proofs.phases.part_len.Given as goal

abbrev pub invariant-loop-i : goal.invariant-loop-i
invariant-loop-i l = l.count ≡ min (length (found (call_one l.node.0) l.phase.lines.items) + link_records l.node.0 0 (map (λ j. j.now) (take l.i l.journals))) (2 ^ 64 - 1)
