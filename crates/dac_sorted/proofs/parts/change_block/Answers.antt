use Rattle.std.proofs.Common.{◌<◌, ◌∙◌, ap, length, rules, slice_set, subst, sym}
use Rattle.std.specs.Arc.{arc_value}
use Rattle.std.specs.List.{flat_map}
use Rattle.std.proofs.lemmas.Result.{on_err_weaker, on_ok_weaker}
use Rattle.dac_origins.specs.laws.Basics.{fails_so}
use Rattle.dac_lattice.specs.Search.{IsInOrder}
use Rattle.dac_sorted.specs.Parts.{IsReplaced, changed}
use Rattle.dac_sorted.proofs.ChangeLemmas.{replaced_changed}
use Rattle.dac_sorted.proofs.ReplaceLemmas.{block_in_order, filled_set, one_replaced, same_block, same_place}
use Rattle.dac_sorted.proofs.parts.change_block.Goals as goal

pub change_in_place-requires : goal.change_in_place-requires
change_in_place-requires g c = block_in_order g.K.Ord.cmp arc_value c.args.blocks.now.items c.args.place c.index_mut.result.now c.requires.in_order c.requires.within c.index_mut.ensures.value

pub returns-in_err-left-clause-filled : goal.returns-in_err-left-clause-filled
returns-in_err-left-clause-filled g c =
    filled_set arc_value c.args.blocks.now.items c.args.place c.change_in_place.new.shared c.requires.filled
    (c.change_in_place.ensures.filled (subst (λ b. 0 < length (arc_value b)) (sym c.index_mut.ensures.value) (c.requires.filled c.args.place c.index_mut.result.now c.requires.within)))

pub returns-in_err-left-clause-err : goal.returns-in_err-left-clause-err
returns-in_err-left-clause-err g c =
    fails_so c.from_residual.result (same_block arc_value c.args.blocks.now.items c.args.place c.index_mut.result.now c.change_in_place.new.shared c.requires.within c.index_mut.ensures.value c.in_err-left.ensures.err)

pub change_anew-requires : goal.change_anew-requires
change_anew-requires g c =
    let old = c.args.blocks.now.items in
    let new = c.change_in_place.new.shared in
    let is = c.index_mut.ensures.value in
    let same = (rw c.in-Some.is at c.in_ok-left.ensures.ok).1 in
    record {
      in_order = subst (IsInOrder g.K.Ord.cmp) (sym (same_block arc_value old c.args.place c.index_mut.result.now new c.requires.within is same)) c.requires.in_order;
      filled = filled_set arc_value old c.args.place new c.requires.filled (subst (λ l. 0 < length l) (sym (same ∙ ap arc_value is)) (c.requires.filled c.args.place c.index_mut.result.now c.requires.within));
      place = same_place g.K.Ord.cmp arc_value c.args.key old c.args.place c.index_mut.result.now new c.requires.within is same c.requires.place;
      within = search rules;
    }

pub returns-in-Some : goal.returns-in-Some
returns-in-Some g c =
    let told = rw c.in-Some.is at c.in_ok-left.ensures.ok in
    let same = same_block arc_value c.args.blocks.now.items c.args.place c.index_mut.result.now c.change_in_place.new.shared c.requires.within c.index_mut.ensures.value told.1 in
    record {
      filled = c.change_anew.ensures.filled;
      ok = on_ok_weaker c.change_anew.result (λ made. made ∙ (λ k. changed g.K.Ord.cmp c.args.key (told.0 k) (same k))) c.change_anew.ensures.ok;
      err = on_err_weaker c.change_anew.result (λ made. ap (flat_map arc_value) made ∙ same) c.change_anew.ensures.err;
    }

pub returns-in-None : goal.returns-in-None
returns-in-None g c =
    let old = c.args.blocks.now.items in
    let new = c.change_in_place.new.shared in
    let is = c.index_mut.ensures.value in
    record {
      filled = filled_set arc_value old c.args.place new c.requires.filled (c.in_ok-left.ensures.filled (subst (λ b. 0 < length (arc_value b)) (sym is) (c.requires.filled c.args.place c.index_mut.result.now c.requires.within)));
      ok = replaced_changed g.met.K.Ord.total g.met.K.MapKey.exact arc_value c.args.key c.args.value old (slice_set old c.args.place new) c.args.place c.index_mut.result.now c.requires.in_order c.requires.within is c.requires.place
          (subst (λ es. IsReplaced arc_value c.args.place es old (slice_set old c.args.place new)) (rw c.in-None.is at c.in_ok-left.ensures.ok) (one_replaced arc_value old c.args.place new c.requires.within));
      err = tt;
    }
