use Rattle.std.proofs.Common.{◌||◌, ◌&&◌, ap, ◌∙◌, sym}
use Rattle.std.specs.FinSet as set
use Rattle.dac_origins.specs.laws.Dots.{dots_total, exact_dots}
use Rattle.dac_store.specs.DotSets.{join_sets, may_stay}
use Rattle.dac_store.specs.laws.DotSets.{contains_join}
use Rattle.dac_store.proofs.dot_set.DotSet.join_few.Goals as goal

pub returns : goal.returns
returns c = set.same_set dots_total exact_dots c.insert_surviving.new.self (join_sets c.args.self.now c.args.heard.now c.args.few.now c.args.few_heard.now) (λ q.
    let second = set.contains c.args.few.now q && may_stay c.args.self.now c.args.heard.now q in
    c.in_ok-insert_surviving.ensures q
    ∙ ap (λ b. b || second) (c.in_ok-remove_replaced.ensures q ∙ ap (λ s. set.contains s q && may_stay c.args.few.now c.args.few_heard.now q) c.in_ok-joined.ensures)
    ∙ sym (contains_join c.args.self.now c.args.heard.now c.args.few.now c.args.few_heard.now q))
