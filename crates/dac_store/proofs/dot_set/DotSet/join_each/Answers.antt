use Rattle.std.proofs.Common.{◌||◌, ◌&&◌, ap, ◌∙◌, sym}
use Rattle.std.specs.FinSet as set
use Rattle.dac_origins.specs.Dots.{dot_cmp}
use Rattle.dac_origins.specs.laws.Dots.{dots_total, exact_dots}
use Rattle.dac_store.specs.DotSets.{join_sets, may_stay}
use Rattle.dac_store.specs.laws.DotSets.{contains_join}
use Rattle.dac_store.proofs.dot_set.DotSet.join_each.Goals as goal

pub returns : goal.returns
returns c = set.same_set dots_total exact_dots c.insert_surviving-2.new.self (join_sets c.args.self.now c.args.heard.now c.args.other.now c.args.other_heard.now) (λ q.
    let first = set.contains c.args.self.now q && may_stay c.args.other.now c.args.other_heard.now q in
    let second = set.contains c.args.other.now q && may_stay c.args.self.now c.args.heard.now q in
    c.in_ok-insert_surviving-2.ensures q
    ∙ (ap (λ b. b || second) (c.in_ok-insert_surviving.ensures q
    ∙ ap (λ b. b || first) (ap (λ s. set.contains s q) c.in_ok-joined.ensures ∙ set.contains-empty dot_cmp q))
    ∙ sym (contains_join c.args.self.now c.args.heard.now c.args.other.now c.args.other_heard.now q)))
