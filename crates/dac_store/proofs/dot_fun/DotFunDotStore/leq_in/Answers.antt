use Rattle.std.proofs.Common.{◌≡◌, ◌∙◌, true, sym, refl}
use Rattle.std.proofs.lemmas.Bool.{false≢true}
use Rattle.std.specs.FinSet as set
use Rattle.std.specs.FinMap.{find}
use Rattle.dac_origins.specs.Dots.{dot_cmp}
use Rattle.dac_origins.specs.laws.Dots.{dots_total, exact_dots}
use Rattle.dac_lattice.specs.laws.EntryLaws.{no_more, one_more, at_place}
use Rattle.dac_store.specs.AtDot.{StandsBelow}
use Rattle.dac_store.proofs.dot_fun.DotFunDotStore.leq_in.Goals as goal

pub loop-dot-preserved : goal.loop-dot-preserved
loop-dot-preserved g c =
    one_more dots_total exact_dots (λ x v. set.contains c.args.heard.now x ≡ true → StandsBelow g.V.Lattice.below (find dot_cmp x c.args.self.now) v) _ _ _
    c.loop-dot-test.true c.loop-dot-item.is c.loop-dot.invariant (c.lets_stand.ensures.0 c.if-not-lets_stand.false)

pub returns-then-not-lets_stand : goal.returns-then-not-lets_stand
returns-then-not-lets_stand g c =
    let at = at_place dots_total exact_dots (λ x v. set.contains c.args.heard.now x ≡ true → StandsBelow g.V.Lattice.below (find dot_cmp x c.args.self.now) v) c.as_slice-dot-items.result.now _ _
    (rw c.as_slice-dot-items.ensures c.other.invariant.in_order) c.loop-dot-test.true c.loop-dot-item.is in
    (λ e. absurd (false≢true e), λ below. absurd (false≢true (sym c.if-not-lets_stand.true ∙ c.lets_stand.ensures.1 (at (rw (c.as_slice-dot-items.ensures, c.other.view_is) below)))))

pub returns : goal.returns
returns g c =
    let all = no_more dots_total exact_dots (λ x v. set.contains c.args.heard.now x ≡ true → StandsBelow g.V.Lattice.below (find dot_cmp x c.args.self.now) v) (λ _ _. tt) _ _
    c.loop-dot-test.false c.loop-dot.invariant in
    (λ _. rw (← c.other.view_is, ← c.as_slice-dot-items.ensures) all, λ _. refl)
