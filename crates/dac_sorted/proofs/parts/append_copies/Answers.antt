use Rattle.std.proofs.Common.{◌++◌, ◌∙◌, ap, append-nil, sym}
use Rattle.std.proofs.lemmas.List.{take_all}
use Rattle.dac_sorted.proofs.PartLemmas.{copied_more}
use Rattle.dac_sorted.proofs.parts.append_copies.Goals as goal

pub loop-key-init : goal.loop-key-init
loop-key-init g c = sym (append-nil c.args.list.now.items)

pub loop-key-preserved : goal.loop-key-preserved
loop-key-preserved g c =
    copied_more c.args.entries.now c.args.list.now.items c.loop-key.list.items c.push.new.self.items c.loop-key.key-index c.loop-key-item.result c.in_ok-copy.field-0
    c.loop-key-test.true c.loop-key-item.is c.loop-key.invariant c.in_ok-copy.ensures c.in_ok-push.ensures.items

pub returns : goal.returns
returns g c = c.loop-key.invariant ∙ ap (λ l. c.args.list.now.items ++ l) (take_all _ _ c.loop-key-test.false)
