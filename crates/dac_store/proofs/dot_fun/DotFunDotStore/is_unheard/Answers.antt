use Rattle.std.proofs.Common.{◌≡◌, ◌∙◌, true, false, sym, refl, is_some}
use Rattle.std.proofs.lemmas.Bool.{false≢true}
use Rattle.std.specs.FinSet as set
use Rattle.dac_origins.specs.laws.Dots.{dots_total, exact_dots}
use Rattle.dac_lattice.specs.laws.EntryLaws.{no_more, one_more, at_place}
use Rattle.dac_store.proofs.dot_fun.DotFunDotStore.is_unheard.Goals as goal

pub loop-dot-preserved : goal.loop-dot-preserved
loop-dot-preserved g c =
    one_more dots_total exact_dots (λ x v. is_some v ≡ true → set.contains c.args.heard.now x ≡ false) _ _ _
    c.loop-dot-test.true c.loop-dot-item.is c.loop-dot.invariant (λ _. sym c.contains.ensures ∙ c.if-contains.false)

pub returns-then-contains : goal.returns-then-contains
returns-then-contains g c =
    let at = at_place dots_total exact_dots (λ x v. is_some v ≡ true → set.contains c.args.heard.now x ≡ false) c.as_slice-dot-items.result.now _ _
    (rw c.as_slice-dot-items.ensures c.self.invariant.in_order) c.loop-dot-test.true c.loop-dot-item.is in
    (λ e. absurd (false≢true e), λ unheard. absurd (false≢true (sym (at (rw (c.as_slice-dot-items.ensures, c.self.view_is) unheard) refl) ∙ sym c.contains.ensures ∙ c.if-contains.true)))

pub returns : goal.returns
returns g c =
    let all = no_more dots_total exact_dots (λ x v. is_some v ≡ true → set.contains c.args.heard.now x ≡ false) (λ _ e. absurd (false≢true e)) _ _
    c.loop-dot-test.false c.loop-dot.invariant in
    (λ _. rw (← c.self.view_is, ← c.as_slice-dot-items.ensures) all, λ _. refl)
