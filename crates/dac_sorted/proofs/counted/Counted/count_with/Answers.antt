use Rattle.std.proofs.Common.{◌≡◌, ◌∙◌, length, rules}
use Rattle.std.specs.FinMap.{put}
use Rattle.dac_sorted.proofs.ChangeLemmas.{count_new, count_there, some_if}
use Rattle.dac_sorted.proofs.counted.Counted.count_with.Goals as goal

pub returns-in-Some-clause-value : goal.returns-in-Some-clause-value
returns-in-Some-clause-value g c = λ v.
    rw c.self.view_is at (count_there g.met.K.Ord.total c.self.inside.parts c.args.key c.in-Some.field-0.now v c.self.inside.count c.self.invariant.in_order (search rules) c.self.invariant.counted)

pub returns-in-None-clause-value : goal.returns-in-None-clause-value
returns-in-None-clause-value g c =
    some_if c.one_more.result _ (λ n. (v : g.row.V.Denot) → n ≡ length (put g.K.Ord.cmp c.args.key v c.args.self.now)) c.one_more.ensures (λ n more v.
    more.0 ∙ rw c.self.view_is at (count_new g.met.K.Ord.total c.self.inside.parts c.args.key v c.self.inside.count c.self.invariant.in_order (search rules) c.self.invariant.counted))
