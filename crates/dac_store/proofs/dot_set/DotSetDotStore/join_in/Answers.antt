use Rattle.std.proofs.Common.{◌≡◌, ◌∙◌, IfOk, subst, sym, ap}
use Rattle.dac_store.specs.DotSets.{join_sets}
use Rattle.dac_store.specs.laws.DotSets.{join_same, join_turned}
use Rattle.dac_store.proofs.dot_set.DotSetDotStore.join_in.Goals as goal

pub returns-then-has_at_most-2 : goal.returns-then-has_at_most-2
returns-then-has_at_most-2 c = subst (λ s. IfOk c.join_few-then-has_at_most-2.result (λ joined. joined ≡ s)) (join_turned c.args.other.now c.args.other_heard.now c.args.self.now c.args.heard.now) c.join_few-then-has_at_most-2.ensures

pub returns-then-is_same : goal.returns-then-is_same
returns-then-is_same c =
    let mine = c.args.self.now in
    let same = c.is_same.ensures c.if-is_same.true in
    let stays = sym (ap (λ t. join_sets mine c.args.heard.now t c.args.other_heard.now) (sym same) ∙ join_same mine c.args.heard.now c.args.other_heard.now) in
    subst (λ s. IfOk c.copy.result (λ joined. joined ≡ s)) stays c.copy.ensures
