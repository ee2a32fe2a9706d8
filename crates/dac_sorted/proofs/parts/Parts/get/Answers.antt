use Rattle.std.proofs.Common.{◌∙◌}
use Rattle.dac_sorted.proofs.parts.Parts.get.Goals as goal

pub value_at-requires : goal.value_at-requires
value_at-requires g c = c.part_at.ensures.in_order

pub returns : goal.returns
returns g c = c.value_at.ensures ∙ c.part_at.ensures.found
