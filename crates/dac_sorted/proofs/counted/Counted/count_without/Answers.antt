use Rattle.std.proofs.Common.{◌∙◌, rules}
use Rattle.dac_sorted.proofs.ChangeLemmas.{count_less, count_same}
use Rattle.dac_sorted.proofs.counted.Counted.count_without.Goals as goal

pub returns-in-Some : goal.returns-in-Some
returns-in-Some g c =
    c.saturating_sub.ensures
    ∙ rw c.self.view_is at (count_less g.met.K.Ord.total c.self.inside.parts c.args.key c.self.inside.count c.in-Some.field-0.now c.self.invariant.in_order (search rules) c.self.invariant.counted)

pub returns-in-None : goal.returns-in-None
returns-in-None g c =
    rw c.self.view_is at (count_same g.met.K.Ord.total c.self.inside.parts c.args.key c.self.inside.count c.self.invariant.in_order (search rules) c.self.invariant.counted)
