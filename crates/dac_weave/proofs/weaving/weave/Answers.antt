use Rattle.std.proofs.Common.{◌≡◌, ℕ, List, [], ◌∷◌, ◌++◌, sym, ap, subst, ◌∙◌}
use Rattle.std.proofs.lemmas.Result.{err_from_is_err_and}
use Rattle.dac_weave.specs.laws.Common.{Vec}
use Rattle.dac_weave.specs.Cut.{AreEnds, rows_of}
use Rattle.dac_weave.specs.Faults.{IsTrueFault, IsRefusal}
use Rattle.dac_weave.specs.Phased.{IsPhaseFault}
use Rattle.dac_weave.proofs.Cutting.{one_phase, one_fault}
use Rattle.dac_weave.proofs.weaving.weave.Goals as goal

pub weave_phases-requires : goal.weave_phases-requires
weave_phases-requires c =
    let row = c.in_ok-lengths.field-0 in
    let one : c.deref.result.now ≡ row ∷ [] = c.deref.ensures.value ∙ c.in_ok-push.ensures.items ∙ ap (λ (rows : List (Vec ℕ)). rows ++ row ∷ []) c.new-ends.ensures.items in
    subst (λ (ends : List (Vec ℕ)). AreEnds c.args.journals.now (rows_of ends)) (sym one) (one_phase c.args.journals.now row.items c.in_ok-lengths.ensures)

pub returns-in_err-woven-clause-unwoven : goal.returns-in_err-woven-clause-unwoven
returns-in_err-woven-clause-unwoven c =
    let t = c.args.config.now in
    let js = c.args.journals.now in
    let row = c.in_ok-lengths.field-0 in
    let fault = c.in_err-woven.field-0.0 in
    let one : c.deref.result.now ≡ row ∷ [] = c.deref.ensures.value ∙ c.in_ok-push.ensures.items ∙ ap (λ (rows : List (Vec ℕ)). rows ++ row ∷ []) c.new-ends.ensures.items in
    let ends = subst (λ (rows : List (Vec ℕ)). IsPhaseFault t js (rows_of rows) fault) one c.in_err-woven.ensures.unwoven in
    let e = err_from_is_err_and c.from_residual-in_err-woven.result c.from_residual-in_err-woven.ensures.1 in
    rw e.1 (subst (IsTrueFault t js) (sym e.2) (one_fault t js row.items fault c.in_ok-lengths.ensures ends).0)

pub returns-in_err-woven-clause-complete : goal.returns-in_err-woven-clause-complete
returns-in_err-woven-clause-complete c =
    let t = c.args.config.now in
    let js = c.args.journals.now in
    let row = c.in_ok-lengths.field-0 in
    let fault = c.in_err-woven.field-0.0 in
    let one : c.deref.result.now ≡ row ∷ [] = c.deref.ensures.value ∙ c.in_ok-push.ensures.items ∙ ap (λ (rows : List (Vec ℕ)). rows ++ row ∷ []) c.new-ends.ensures.items in
    let ends = subst (λ (rows : List (Vec ℕ)). IsPhaseFault t js (rows_of rows) fault) one c.in_err-woven.ensures.unwoven in
    let e = err_from_is_err_and c.from_residual-in_err-woven.result c.from_residual-in_err-woven.ensures.1 in
    rw e.1 (subst (IsRefusal t js) (sym e.2) (one_fault t js row.items fault c.in_ok-lengths.ensures ends).1)
