use Rattle.std.proofs.Common.{◌∙◌, sym, ap}
use Rattle.dac_wishes.proofs.standing.joined_unless_same.Goals as goal

pub returns-then-leaves : goal.returns-then-leaves
returns-then-leaves g c =
    let join = g.S.DotStore.join in
    let mine = c.args.mine.now in
    let theirs = c.args.theirs.now in
    sym (ap (λ t. join mine.store mine.context t theirs.context) (c.leaves.ensures.nothing c.if-leaves.true)
    ∙ g.met.S.DotStore.laws.alone mine.store mine.context theirs.context c.tells_invariant.ensures.store (c.leaves.ensures.unheard c.if-leaves.true))
