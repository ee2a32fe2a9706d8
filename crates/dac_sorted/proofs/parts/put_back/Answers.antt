use Rattle.std.proofs.Common.{◌+◌, ◌<◌, ◌++◌, ◌∙◌, ap, length, rules, subst, sym}
use Rattle.std.specs.Arc.{arc_value}
use Rattle.dac_sorted.specs.Parts.{HaveEntries, IsReplaced}
use Rattle.dac_sorted.proofs.ReplaceLemmas.{filled_removed, joined_replaced}
use Rattle.dac_sorted.proofs.parts.put_back.Goals as goal

pub returns-then-place-len-clause-filled : goal.returns-then-place-len-clause-filled
returns-then-place-len-clause-filled g c =
    subst (HaveEntries arc_value) (sym c.remove-joined.ensures.by_index.2) (filled_removed arc_value c.replace_block.new.blocks.items c.args.place c.in_ok-replace_block.ensures.filled)

pub returns-then-place-len-clause-ok : goal.returns-then-place-len-clause-ok
returns-then-place-len-clause-ok g c =
    let old = c.args.blocks.now.items in
    let mid = c.replace_block.new.blocks.items in
    let own = c.args.entries.items in
    let within : c.args.place + 1 < length old = search rules in
    let joined = c.in_ok-append_copies.ensures ∙ ap (λ l. own ++ l) (c.entries.ensures ∙ c.deref.ensures) in
    subst (IsReplaced arc_value c.args.place own old) (sym c.remove-joined.ensures.by_index.2)
    (joined_replaced arc_value old mid c.args.place c.index.result.now own within c.index.ensures
    (subst (λ es. IsReplaced arc_value (c.args.place + 1) es old mid) joined c.in_ok-replace_block.ensures.ok))

pub returns-then-is_empty-clause-filled : goal.returns-then-is_empty-clause-filled
returns-then-is_empty-clause-filled g c =
    subst (HaveEntries arc_value) (sym c.remove-emptied.ensures.by_index.2) (filled_removed arc_value c.args.blocks.now.items c.args.place c.requires.filled)
