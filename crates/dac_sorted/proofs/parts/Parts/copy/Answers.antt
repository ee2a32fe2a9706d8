use Rattle.std.proofs.Common.{◌++◌, ◌∙◌, ap}
use Rattle.std.specs.Arc.{arc_value}
use Rattle.std.specs.List.{flat_map}
use Rattle.dac_sorted.proofs.parts.Parts.copy.Goals as goal

pub returns : goal.returns
returns g c = (λ i. (c.in_ok-shared.ensures.same ∙ ap (flat_map arc_value) c.as_slice.ensures.value) i ++ (c.in_ok-copied.ensures ∙ c.as_slice-2.ensures.value) i) ∙ c.self.view_is
