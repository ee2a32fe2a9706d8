use Rattle.std.proofs.Common.{◌∙◌, ◌||◌, ◌∷◌, ap, sym}
use Rattle.std.specs.Ordering.{eq_by_cmp}
use Rattle.std.specs.FinSet as set
use Rattle.std.proofs.lemmas.List.{take_all}
use Rattle.dac_origins.specs.Dots.{dot_cmp}
use Rattle.dac_origins.specs.laws.Dots.{dots_total, exact_dots}
use Rattle.dac_origins.specs.Keys.{has_key}
use Rattle.dac_wishes.proofs.Naming.{named_more}
use Rattle.dac_wishes.proofs.delta.named_by.Goals as goal

pub loop-replaced-init : goal.loop-replaced-init
loop-replaced-init c x =
    ap (λ s. set.contains s x) (c.in_ok-insert.ensures.ok ∙ ap (λ s. set.insert s c.args.dot) c.empty-named.ensures)
    ∙ set.contains-insert dots_total set.empty c.args.dot x ∙ ap (λ b. eq_by_cmp dot_cmp x c.args.dot || b) (set.contains-empty dot_cmp x)

pub loop-replaced-preserved : goal.loop-replaced-preserved
loop-replaced-preserved c = rw c.in_ok-insert-2.ensures.ok (named_more c.args.dot c.args.over.now c.loop-replaced.named _ _ c.loop-replaced-test.true c.loop-replaced.invariant)

pub returns : goal.returns
returns c = set.same_set dots_total exact_dots _ _ (λ x.
    c.loop-replaced.invariant x
    ∙ ap (λ ks. has_key dot_cmp (c.args.dot ∷ ks) x) (take_all _ c.args.over.now c.loop-replaced-test.false)
    ∙ sym (set.contains-from_list dots_total (c.args.dot ∷ c.args.over.now) x))
