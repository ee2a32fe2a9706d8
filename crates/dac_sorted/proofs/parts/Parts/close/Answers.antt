use Rattle.std.proofs.Common.{◌++◌, ◌∙◌, append-nil}
use Rattle.std.specs.Arc.{arc_value}
use Rattle.std.specs.List.{flat_map}
use Rattle.dac_sorted.proofs.parts.Parts.close.Goals as goal

pub returns : goal.returns
returns g c =
    (λ k. c.in_ok-seal_all.ensures.sealed k ++ c.in_ok-seal_all.ensures.rest k)
    ∙ append-nil (flat_map arc_value c.self.inside.blocks.items ++ c.self.inside.last.items)
    ∙ c.self.view_is
