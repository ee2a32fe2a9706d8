use Rattle.std.proofs.Common.{◌≡◌, take}
use Rattle.std.specs.Arc.{arc_value}
use Rattle.std.specs.List.{flat_map}
use Rattle.dac_sorted.specs.Parts.{HaveEntries}
use Rattle.dac_sorted.proofs.parts.share_blocks.Given as goal

abbrev pub invariant-loop-block : goal.invariant-loop-block
invariant-loop-block g l = HaveEntries arc_value l.shared.items × (flat_map arc_value l.shared.items ≡ flat_map arc_value (take l.block-index l.blocks))
