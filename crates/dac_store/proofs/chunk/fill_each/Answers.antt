use Rattle.std.proofs.Common.{◌+◌, ◌∙◌, [], ◌∷◌, ap, drop, refl, subst, sym}
use Rattle.std.proofs.lemmas.List.{drop_all, drop_more}
use Rattle.dac_store.proofs.ChunkLemmas.{IsFilling, all_filled, filling_more, filling_start, one_has}
use Rattle.dac_store.proofs.chunk.fill_each.Goals as goal

pub loop-store-init : goal.loop-store-init
loop-store-init g c = filling_start g.S.DotStore.has c.args.entries.now c.args.entries.now c.args.filter.now.slots refl

pub loop-store-preserved : goal.loop-store-preserved
loop-store-preserved g c =
    let entries = c.args.entries.now in
    let i = c.loop-store.store-index in
    let e = c.loop-store-item.result in
    filling_more g.S.DotStore.has entries (drop i entries) (e ∷ []) (drop (i + 1) entries) c.args.filter.now.slots c.loop-store.filter.slots c.fill.new.filter.slots
    (drop_more entries i e c.loop-store-test.true ∙ ap (λ d. d ∷ drop (i + 1) entries) (sym c.loop-store-item.is)) c.loop-store.invariant
    (λ x h. c.fill.ensures.own x (one_has g.S.DotStore.has e x h)) c.fill.ensures.more

pub returns-clause-own : goal.returns-clause-own
returns-clause-own g c =
    all_filled g.S.DotStore.has c.args.entries.now c.args.filter.now.slots c.loop-store.filter.slots
    (subst (λ m. IsFilling g.S.DotStore.has c.args.entries.now m c.args.filter.now.slots c.loop-store.filter.slots) (drop_all c.loop-store.store-index c.args.entries.now c.loop-store-test.false) c.loop-store.invariant)

pub returns-clause-more : goal.returns-clause-more
returns-clause-more g c = c.loop-store.invariant.more
