use Rattle.std.proofs.Common.{◌∙◌, ap, take}
use Rattle.std.specs.Arc.{arc_value}
use Rattle.dac_sorted.proofs.PartLemmas.{one_sealed}
use Rattle.dac_sorted.proofs.parts.seal.Goals as goal

pub returns-clause-sealed : goal.returns-clause-sealed
returns-clause-sealed g c =
    one_sealed arc_value c.args.blocks.now.items c.push.new.self.items c.in_ok-block.block (take c.args.count c.args.last.now.items) c.in_ok-push.ensures.items
    (c.in_ok-block.ensures ∙ ap (λ v. v.items) c.replace-sealed.ensures.value ∙ c.in_ok-rest.ensures.items)

pub returns-clause-rest : goal.returns-clause-rest
returns-clause-rest g c = ap (λ v. v.items) c.replace-sealed.ensures.after ∙ c.in_ok-rest.ensures.tail
