use Rattle.std.proofs.Common.{◌∙◌}
use Rattle.dac_sorted.proofs.parts.Parts.end_below.Goals as goal

pub ends_below-requires : goal.ends_below-requires
ends_below-requires g c = c.part_at.ensures.in_order

pub returns : goal.returns
returns g c = c.ends_below.ensures ∙ c.part_at.ensures.above
