use Rattle.std.proofs.Common.{sym, ◌∙◌}
use Rattle.std.proofs.lemmas.Bool.{true≢false, and_parts, and_from}
use Rattle.dac_wishes.proofs.Covered.{all_known}
use Rattle.dac_wishes.proofs.covering.knows_all.Goals as goal

pub returns-then-contains : goal.returns-then-contains
returns-then-contains c =
    let law = all_known c.args.dot c.args.over.now c.args.known.now in (
      λ e. law.0 (and_from _ _ (sym c.contains.ensures ∙ c.if-contains.true) (sym c.knows_each.ensures ∙ e)),
      λ f. c.knows_each.ensures ∙ (and_parts _ _ (law.1 f)).1,
    )

pub returns-else-contains : goal.returns-else-contains
returns-else-contains c =
    let law = all_known c.args.dot c.args.over.now c.args.known.now in
    (λ e. absurd (true≢false (sym e ∙ c.if-contains.false)), λ f. c.contains.ensures ∙ (and_parts _ _ (law.1 f)).0)
