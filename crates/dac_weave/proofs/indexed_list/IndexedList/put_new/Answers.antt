use Rattle.std.proofs.Common.{◌≡◌, length, rules, ap, ◌∙◌, ◌++◌, ◌∷◌, [], List}
use Rattle.dac_weave.specs.laws.Common.{Bor}
use Rattle.dac_weave.proofs.Finding.{lent-filed, lent-kept}
use Rattle.dac_weave.proofs.indexed_list.IndexedList.put_new.Goals as goal

pub invariant_of-self-in_err-file : goal.invariant_of-self-in_err-file
invariant_of-self-in_err-file g c = lent-kept g.T.Labelled.label_of c.self.inside.items.items c.reserve.new.self.items c.self.inside.buckets.lists.items c.file.new.self.lists.items c.in_ok-reserve.ensures.items c.in_err-file.ensures.kept c.self.invariant

pub invariant_of-self-2 : goal.invariant_of-self-2
invariant_of-self-2 g c =
    let items = c.self.inside.items.items in
    let more : c.push_reserved.new.self.items ≡ items ++ c.args.item ∷ [] = c.push_reserved.ensures.items ∙ ap (λ (xs : List (Bor g.row.T.Denot)). xs ++ c.args.item ∷ []) c.in_ok-reserve.ensures.items in
    let long : c.len-place.result ≡ length items = search rules in
    lent-filed g.T.Labelled.label_of items c.push_reserved.new.self.items c.self.inside.buckets.lists.items c.file.new.self.lists.items c.args.item c.label.result c.len-place.result more long c.label.ensures c.in_ok-file.ensures.files c.self.invariant
