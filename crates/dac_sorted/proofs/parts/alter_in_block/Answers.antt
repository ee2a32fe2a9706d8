use Rattle.std.proofs.Common.{◌<◌, ap, length, subst, sym}
use Rattle.std.specs.Arc.{arc_value}
use Rattle.std.proofs.lemmas.Result.{IfOk-weaker, on_err_weaker}
use Rattle.dac_sorted.proofs.AlterLemmas.{altered_block, some_tried}
use Rattle.dac_sorted.proofs.ReplaceLemmas.{block_in_order, filled_set, same_block}
use Rattle.dac_sorted.proofs.parts.alter_in_block.Goals as goal

pub alter_in_place-requires : goal.alter_in_place-requires
alter_in_place-requires g c = block_in_order g.K.Ord.cmp arc_value c.args.blocks.now.items c.args.place c.index_mut.result.now c.requires.in_order c.requires.within c.index_mut.ensures.value

pub returns-clause-filled : goal.returns-clause-filled
returns-clause-filled g c =
    let old = c.args.blocks.now.items in
    let block = c.index_mut.result.now in
    let new = c.alter_in_place.new.shared in
    let some = subst (λ l. 0 < length l) (sym (ap arc_value c.index_mut.ensures.value)) (c.requires.filled c.args.place block c.requires.within) in
    filled_set arc_value old c.args.place new c.requires.filled
    (some_tried g.K.Ord.cmp (g.C.Alter.does c.args.how.now) c.args.key g.met.K.Ord.total c.alter_in_place.result (arc_value block) (arc_value new) c.args.target.now c.alter_in_place.new.target c.alter_in_place.ensures.ok c.alter_in_place.ensures.err some)

pub returns-clause-ok : goal.returns-clause-ok
returns-clause-ok g c =
    IfOk-weaker c.alter_in_place.result _ _
    (λ done. altered_block g.K.Ord.cmp (g.C.Alter.does c.args.how.now) c.args.key g.met.K.Ord.total g.met.K.MapKey.exact arc_value c.args.blocks.now.items c.args.place c.index_mut.result.now c.alter_in_place.new.shared
    c.args.target.now c.alter_in_place.new.target c.requires.in_order c.requires.place c.requires.within c.index_mut.ensures.value done) c.alter_in_place.ensures.ok

pub returns-clause-err : goal.returns-clause-err
returns-clause-err g c =
    on_err_weaker c.alter_in_place.result (λ same.
    (same_block arc_value c.args.blocks.now.items c.args.place c.index_mut.result.now c.alter_in_place.new.shared c.requires.within c.index_mut.ensures.value same.0, same.1)) c.alter_in_place.ensures.err
