use Rattle.std.proofs.Common.{◌≡◌, ◌≤◌, ◌-◌, length, take}
use Rattle.std.specs.Arc.{arc_value}
use Rattle.std.specs.List.{flat_map}
use Rattle.dac_sorted.specs.Parts.{HaveEntries}
use Rattle.dac_sorted.proofs.parts.first_blocks.Given as goal

abbrev pub invariant-loop-count : goal.invariant-loop-count
invariant-loop-count g l =
    HaveEntries arc_value l.made.items
    × (l.count ≤ length l.entries)
    × (flat_map arc_value l.made.items ≡ take l.count l.entries)

abbrev pub decreases-loop-count : goal.decreases-loop-count
decreases-loop-count g l = length l.entries - l.count
