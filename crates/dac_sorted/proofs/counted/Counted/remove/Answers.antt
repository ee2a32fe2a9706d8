use Rattle.std.proofs.Common.{◌∙◌, ap, length, subst, sym}
use Rattle.dac_origins.specs.laws.Basics.{fails_so}
use Rattle.dac_lattice.specs.Search.{without}
use Rattle.dac_sorted.specs.Parts.{IsCounted}
use Rattle.dac_sorted.proofs.ChangeLemmas.{counted_without}
use Rattle.dac_sorted.proofs.counted.Counted.remove.Goals as goal

pub invariant_of-self-2 : goal.invariant_of-self-2
invariant_of-self-2 g c =
    counted_without g.met.K.Ord.total c.self.inside.parts c.change.new.self c.args.key c.self.inside.count c.count_without-count.result c.self.invariant
    (c.count_without-count.ensures ∙ ap (λ m. length (without g.K.Ord.cmp c.args.key m)) (sym c.self.view_is)) c.in_ok-change.ensures.ok

pub invariant_of-self : goal.invariant_of-self
invariant_of-self g c = subst (λ m. IsCounted g.K.Ord.cmp m c.self.inside.count) (sym c.in_err-change.ensures.err) c.self.invariant

pub returns-in_err-change-clause-err : goal.returns-in_err-change-clause-err
returns-in_err-change-clause-err g c = fails_so c.from_residual.result (c.in_err-change.ensures.err ∙ c.self.view_is)

pub returns-clause-ok : goal.returns-clause-ok
returns-clause-ok g c = c.in_ok-change.ensures.ok ∙ ap (without g.K.Ord.cmp c.args.key) c.self.view_is
