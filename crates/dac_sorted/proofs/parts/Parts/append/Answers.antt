use Rattle.std.proofs.Common.{◌∙◌}
use Rattle.std.specs.Arc.{arc_value}
use Rattle.dac_sorted.proofs.PartLemmas.{same_sealed}
use Rattle.dac_sorted.proofs.parts.Parts.append.Goals as goal

pub returns : goal.returns
returns g c =
    same_sealed arc_value c.self.inside.blocks.items c.seal.new.blocks.items c.self.inside.last.items c.seal.new.last.items _ c.least-least.result
    (c.self.view_is ∙ c.in_ok-push.ensures.ok) c.in_ok-seal.ensures.sealed c.in_ok-seal.ensures.rest
