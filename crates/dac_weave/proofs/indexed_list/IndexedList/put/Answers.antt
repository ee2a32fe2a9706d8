use Rattle.std.proofs.Common.{◌≡◌, Some}
use Rattle.dac_weave.specs.laws.Common.{counted, lent}
use Rattle.dac_weave.proofs.Finding.{lent-again}
use Rattle.dac_weave.proofs.indexed_list.IndexedList.put.Goals as goal

pub invariant_of-self-in-Some : goal.invariant_of-self-in-Some
invariant_of-self-in-Some g c =
    let items = c.self.inside.items.items in
    let at : counted (lent items) c.in-Some.field-0 ≡ Some c.args.item.now = cc (c.in-Some.ensures, c.self.view_is) in
    lent-again g.T.Labelled.label_of items c.push.new.self.items c.self.inside.buckets.lists.items c.args.item c.in-Some.field-0 c.in_ok-push-in-Some.ensures.items at c.self.invariant
