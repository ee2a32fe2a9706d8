use Rattle.std.proofs.Common.{◌++◌, ◌∙◌, [], ◌∷◌, arith, ap, sym, subst, length-append}
use Rattle.dac_origins.specs.laws.Basics.{fails_so}
use Rattle.dac_sorted.specs.Appending.{is_above_entries}
use Rattle.dac_sorted.specs.Parts.{IsCounted}
use Rattle.dac_sorted.specs.laws.Appending.{sorted_appended}
use Rattle.dac_sorted.proofs.counted.Counted.push.Goals as goal

pub invariant_of-self-2 : goal.invariant_of-self-2
invariant_of-self-2 g c =
    let es = c.self.inside.parts in
    let e : g.row.K.Denot × g.row.V.Denot = (c.args.key, c.args.value) in
    let long = length-append es (e ∷ []) in
    let counted = c.self.invariant.counted in
    let more = c.in-Some.ensures.0 in
    rw c.in_ok-push.ensures.ok (record {
      in_order = sorted_appended g.met.K.Ord.total es e c.self.invariant.in_order (ap (λ m. is_above_entries g.K.Ord.cmp m c.args.key) c.self.view_is ∙ c.requires);
      counted = omega (arith, long, counted, more);
      few = c.in-Some.ensures.1;
    })

pub invariant_of-self : goal.invariant_of-self
invariant_of-self g c = subst (λ m. IsCounted g.K.Ord.cmp m c.self.inside.count) (sym c.in_err-push.ensures.err) c.self.invariant

pub returns-in_err-push-clause-err : goal.returns-in_err-push-clause-err
returns-in_err-push-clause-err g c = fails_so c.from_residual.result (c.in_err-push.ensures.err ∙ c.self.view_is)

pub returns-clause-ok : goal.returns-clause-ok
returns-clause-ok g c = c.in_ok-push.ensures.ok ∙ ap (λ es. es ++ (c.args.key, c.args.value) ∷ []) c.self.view_is
