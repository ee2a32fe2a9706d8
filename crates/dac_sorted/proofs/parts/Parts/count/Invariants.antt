use Rattle.std.proofs.Common.{◌≡◌, ◌+◌, length, drop}
use Rattle.std.specs.Arc.{arc_value}
use Rattle.std.specs.List.{flat_map}
use Rattle.dac_sorted.proofs.parts.Parts.count.Given as goal

-- the entries counted and those of the remaining blocks are all
abbrev pub invariant-loop-block : goal.invariant-loop-block
invariant-loop-block g l = l.count + length (flat_map arc_value (drop l.block-index l.blocks)) ≡ length l.self
