use Rattle.std.proofs.Common.{◌∙◌, ap, arith, subst, sym}
use Rattle.std.specs.FinSet as set
use Rattle.std.proofs.lemmas.Result.{IfOk-weaker}
use Rattle.dac_dots.specs.Entries.{AreRows, dots_of}
use Rattle.dac_dots.specs.laws.EntryRows.{dots_united, rows_united}
use Rattle.dac_dots.proofs.SetLemmas.{adds_nothing_first, adds_nothing_second}
use Rattle.dac_dots.proofs.context.Context.union.Goals as goal

pub returns-then-len-eq0 : goal.returns-then-len-eq0
returns-then-len-eq0 c =
    let none = c.if-len-eq0.true in
    let len = c.len.ensures.value in
    IfOk-weaker c.copy.result _ _ (λ both is. is ∙ adds_nothing_first c.self.inside.rows c.args.self.now c.self.view_is (omega (arith, none, len)) c.args.other.now) c.copy.ensures

pub returns-then-len-eq0-2 : goal.returns-then-len-eq0-2
returns-then-len-eq0-2 c =
    let none = c.if-len-eq0-2.true in
    let len = c.len-2.ensures.value in
    IfOk-weaker c.copy-then-len-eq0-2.result _ _ (λ both is. is ∙ adds_nothing_second c.other.inside.rows c.args.other.now c.other.view_is (omega (arith, none, len)) c.args.self.now) c.copy-then-len-eq0-2.ensures

pub invariant_of-result : goal.invariant_of-result
invariant_of-result c = subst AreRows (sym c.in_ok-rows.ensures) (rows_united c.self.inside.rows c.other.inside.rows c.self.invariant c.other.invariant)

pub returns : goal.returns
returns c =
    ap dots_of c.in_ok-rows.ensures
    ∙ dots_united c.self.inside.rows c.other.inside.rows c.self.invariant c.other.invariant
    ∙ (λ i. set.union (c.self.view_is i) (c.other.view_is i))
