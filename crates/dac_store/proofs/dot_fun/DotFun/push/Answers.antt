use Rattle.std.proofs.Common.{◌∙◌, ◌++◌, [], ◌∷◌, ap, sym, subst}
use Rattle.std.proofs.lemmas.Result.{IfOk-from_err}
use Rattle.dac_origins.specs.Dots.{dot_cmp}
use Rattle.dac_origins.specs.laws.Dots.{dots_total}
use Rattle.dac_origins.specs.declared.dot.Dot.{Dot}
use Rattle.dac_origins.specs.laws.Basics.{fails_so}
use Rattle.dac_lattice.specs.Lattices.{IsOptionOf}
use Rattle.dac_lattice.specs.Maps.{IsMap}
use Rattle.dac_sorted.specs.Appending.{is_above_entries}
use Rattle.dac_sorted.specs.laws.Appending.{sorted_appended, find_appended}
use Rattle.dac_store.specs.FewEntries.{entries_of}
use Rattle.dac_store.proofs.dot_fun.DotFun.push.Goals as goal

pub invariant_of-self-2 : goal.invariant_of-self-2
invariant_of-self-2 g c =
    let es = entries_of c.self.inside.few in
    let e : Dot × g.row.V.Denot = (c.args.dot, c.args.value) in
    rw c.in_ok-push.ensures.ok (record {
      in_order = sorted_appended dots_total es e c.self.invariant.in_order (sym (rw c.as_slice.ensures at c.ends_below.ensures) ∙ c.if-not-ends_below.false);
      values = λ q. find_appended dots_total (IsOptionOf g.V.Lattice.is_value) es e q (c.self.invariant.values q) c.tells_invariant.ensures;
    })

pub returns-then-not-ends_below-clause-ok : goal.returns-then-not-ends_below-clause-ok
returns-then-not-ends_below-clause-ok g c =
    sym c.if-not-ends_below.true ∙ (c.ends_below.ensures ∙ ap (λ es. is_above_entries dot_cmp es c.args.dot) (c.as_slice.ensures ∙ c.self.view_is))

pub invariant_of-self : goal.invariant_of-self
invariant_of-self g c = subst (IsMap dot_cmp g.V.Lattice.is_value) (sym c.in_err-push.ensures.err) c.self.invariant

pub returns-in_err-push-clause-ok : goal.returns-in_err-push-clause-ok
returns-in_err-push-clause-ok g c = IfOk-from_err c.from_residual.result _ c.from_residual.ensures.0

pub returns-in_err-push-clause-new : goal.returns-in_err-push-clause-new
returns-in_err-push-clause-new g c = IfOk-from_err c.from_residual.result _ c.from_residual.ensures.0

pub returns-in_err-push-clause-err : goal.returns-in_err-push-clause-err
returns-in_err-push-clause-err g c = fails_so c.from_residual.result (c.in_err-push.ensures.err ∙ c.self.view_is)

pub returns-in_err-push-clause-last : goal.returns-in_err-push-clause-last
returns-in_err-push-clause-last g c =
    fails_so c.from_residual.result (sym (c.ends_below.ensures ∙ ap (λ es. is_above_entries dot_cmp es c.args.dot) (c.as_slice.ensures ∙ c.self.view_is)) ∙ c.if-not-ends_below.false)

pub returns-clause-ok : goal.returns-clause-ok
returns-clause-ok g c =
    sym c.if-not-ends_below.false ∙ (c.ends_below.ensures ∙ ap (λ es. is_above_entries dot_cmp es c.args.dot) (c.as_slice.ensures ∙ c.self.view_is))

pub returns-clause-new : goal.returns-clause-new
returns-clause-new g c = c.in_ok-push.ensures.ok ∙ ap (λ es. es ++ (c.args.dot, c.args.value) ∷ []) c.self.view_is
