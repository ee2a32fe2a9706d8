use Rattle.std.specs.Arc.{arc_value}
use Rattle.dac_sorted.proofs.PartLemmas.{then_shared}
use Rattle.dac_sorted.proofs.parts.Parts.share.Goals as goal

pub returns : goal.returns
returns g c =
    then_shared arc_value c.self.inside.blocks.items c.seal_all.new.blocks.items c.push.new.self.items c.self.inside.last.items c.seal_all.new.last.items c.args.self.now (arc_value c.args.block.now) c.in_ok-try_clone.field-0
    c.self.view_is c.in_ok-seal_all.ensures.sealed c.in_ok-seal_all.ensures.rest c.in_ok-push.ensures.items c.in_ok-try_clone.ensures
