use Rattle.std.proofs.Common.{◌∙◌, ap, length, subst, sym}
use Rattle.std.specs.FinMap.{put}
use Rattle.dac_origins.specs.laws.Basics.{fails_so}
use Rattle.dac_sorted.specs.Parts.{IsCounted}
use Rattle.dac_sorted.proofs.ChangeLemmas.{counted_put}
use Rattle.dac_sorted.proofs.counted.Counted.put.Goals as goal

pub invariant_of-self-2 : goal.invariant_of-self-2
invariant_of-self-2 g c =
    counted_put g.met.K.Ord.total c.self.inside.parts c.change.new.self c.args.key c.args.value c.in-Some.count c.self.invariant.in_order
    (c.in-Some.ensures.value c.args.value ∙ ap (λ m. length (put g.K.Ord.cmp c.args.key c.args.value m)) (sym c.self.view_is)) c.in-Some.ensures.few c.in_ok-change.ensures.ok

pub invariant_of-self : goal.invariant_of-self
invariant_of-self g c = subst (λ m. IsCounted g.K.Ord.cmp m c.self.inside.count) (sym c.in_err-change.ensures.err) c.self.invariant

pub returns-in_err-change-clause-err : goal.returns-in_err-change-clause-err
returns-in_err-change-clause-err g c = fails_so c.from_residual.result (c.in_err-change.ensures.err ∙ c.self.view_is)

pub returns-clause-ok : goal.returns-clause-ok
returns-clause-ok g c = c.in_ok-change.ensures.ok ∙ ap (put g.K.Ord.cmp c.args.key c.args.value) c.self.view_is
