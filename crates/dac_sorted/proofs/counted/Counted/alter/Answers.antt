use Rattle.dac_sorted.proofs.AlterLemmas.{counted_tried}
use Rattle.dac_sorted.proofs.counted.Counted.alter.Goals as goal

pub invariant_of-self : goal.invariant_of-self
invariant_of-self g c =
    counted_tried g.K.Ord.cmp (g.C.Alter.does c.args.how.now) c.args.key g.met.K.Ord.total c.alter.result c.self.inside.parts c.alter.new.self c.args.target.now c.alter.new.target c.self.inside.count c.alter.ensures.ok c.alter.ensures.err c.self.invariant
