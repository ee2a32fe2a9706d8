use Rattle.std.proofs.Common.{◌++◌, ◌+◌, ◌∙◌, ap, drop, sym, ◌∷◌}
use Rattle.std.proofs.lemmas.List.{drop_all, drop_more}
use Rattle.dac_lattice.specs.Entries.{merge_entries}
use Rattle.dac_sorted.proofs.JoinLemmas.{part_step}
use Rattle.dac_sorted.proofs.merging.merge_part.Goals as goal

pub loop-entry-preserved : goal.loop-entry-preserved
loop-entry-preserved g c =
    let f = g.C.Combine.combined c.args.how.now in
    let part = c.args.part.now in
    let i = c.loop-entry.entry-index in
    let e = c.entry-item.result in
    part_step g.met.K.Ord.total f (λ xs. c.make_room.new.self ++ merge_entries g.K.Ord.cmp f (part ++ xs) c.args.theirs.now)
    (drop i part) (drop (i + 1) part) c.loop-entry.built c.put_below.new.built c.put_merged.new.built c.loop-entry.theirs c.put_below.new.theirs c.put_merged.new.theirs e
    (drop_more part i e c.loop-entry-test.true ∙ ap (λ d. d ∷ drop (i + 1) part) (sym c.entry-item.is)) c.in_ok-put_below.ensures c.in_ok-put_merged.ensures c.loop-entry.invariant

pub put_merged-requires : goal.put_merged-requires
put_merged-requires g c = c.in_ok-put_below.ensures.past

pub returns : goal.returns
returns g c xs =
    let f = g.C.Combine.combined c.args.how.now in
    ap (λ l. c.loop-entry.built ++ merge_entries g.K.Ord.cmp f (l ++ xs) c.loop-entry.theirs) (sym (drop_all c.loop-entry.entry-index c.args.part.now c.loop-entry-test.false))
    ∙ c.loop-entry.invariant xs
    ∙ ap (λ l. l ++ merge_entries g.K.Ord.cmp f (c.args.part.now ++ xs) c.args.theirs.now) (c.make_room.ensures ∙ c.in_ok-close.ensures)
