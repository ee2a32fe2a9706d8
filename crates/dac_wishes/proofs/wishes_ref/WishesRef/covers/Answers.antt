use Rattle.std.proofs.Common.{◌≡◌, sym, ap, subst, ◌∙◌}
use Rattle.dac_origins.specs.Dots.{IsSubset}
use Rattle.dac_wishes.specs.StartsByKey.{starts_by_key}
use Rattle.dac_wishes.specs.Covering.{let_wishes}
use Rattle.dac_wishes.proofs.Covered.{wish_covered}
use Rattle.dac_wishes.proofs.wishes_ref.WishesRef.covers.Goals as goal

pub returns-then-knows_all : goal.returns-then-knows_all
returns-then-knows_all c =
    let over = c.args.over.now in
    let law = wish_covered c.args.dot c.args.start over c.args.self.now in
    let stand : c.let_wishes.result ≡ let_wishes c.args.dot c.args.start over (starts_by_key c.args.self.now.standing) = c.let_wishes.ensures ∙ ap (let_wishes c.args.dot c.args.start over) c.entries.ensures in
    (λ e. law.0 (subst (IsSubset _) c.context.ensures (c.knows_all.ensures.0 c.if-knows_all.true), sym stand ∙ e), λ below. stand ∙ (law.1 below).1)
