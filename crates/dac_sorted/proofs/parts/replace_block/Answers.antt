use Rattle.std.proofs.Common.{◌+◌, ◌++◌, ◌∙◌, slice_set, subst, sym, take-append-drop}
use Rattle.std.specs.Arc.{arc_value}
use Rattle.std.specs.List.{insert}
use Rattle.dac_sorted.specs.Parts.{IsReplaced}
use Rattle.dac_sorted.proofs.ReplaceLemmas.{two_replaced}
use Rattle.dac_sorted.proofs.parts.replace_block.Goals as goal

pub returns-clause-ok : goal.returns-clause-ok
returns-clause-ok g c =
    let old = c.args.blocks.now.items in
    let lower = c.in_ok-first.first in
    let upper = c.in_ok-second.second in
    let split = c.in_ok-upper.ensures in
    let halves = (λ k. (c.in_ok-first.ensures ∙ split.items) k ++ (c.in_ok-second.ensures ∙ split.tail) k) ∙ take-append-drop _ c.args.entries.items in
    subst (λ m. IsReplaced arc_value c.args.place c.args.entries.items old (slice_set m c.args.place lower)) (sym c.in_ok-insert.ensures.items)
    (subst (λ es. IsReplaced arc_value c.args.place es old (slice_set (insert old (c.args.place + 1) upper) c.args.place lower)) halves (two_replaced arc_value old c.args.place lower upper c.requires.within))
