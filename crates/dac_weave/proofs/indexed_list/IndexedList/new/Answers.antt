use Rattle.dac_weave.proofs.Finding.{finds-empty}
use Rattle.dac_weave.proofs.indexed_list.IndexedList.new.Goals as goal

pub invariant_of-result : goal.invariant_of-result
invariant_of-result g c = finds-empty g.T.Labelled.label_of c.new-2.result.items c.in_ok-buckets.buckets.lists.items c.new-2.ensures.items c.in_ok-buckets.ensures
