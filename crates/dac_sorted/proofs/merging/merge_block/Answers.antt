use Rattle.std.proofs.Common.{◌∙◌, subst}
use Rattle.std.specs.Arc.{arc_value}
use Rattle.dac_sorted.specs.Digests.{AllStay}
use Rattle.dac_sorted.specs.Joining.{AreBefore, IsMergedPart}
use Rattle.dac_sorted.proofs.JoinLemmas.{part_shared}
use Rattle.dac_sorted.proofs.merging.merge_block.Goals as goal

pub can_share-requires : goal.can_share-requires
can_share-requires g c = record {
  in_order = rw c.deref.ensures c.requires.in_order;
  fits = rw c.deref.ensures c.requires.fits;
}

pub returns-then-can_share : goal.returns-then-can_share
returns-then-can_share g c =
    let f = g.C.Combine.combined c.args.how.now in
    let part = arc_value c.args.block.now in
    part_shared g.K.Ord.cmp f part c.args.built.now c.share.new.self c.args.theirs.now
    (subst (AllStay f) c.deref.ensures (c.can_share.ensures.stay c.if-can_share.true))
    (subst (λ m. AreBefore g.K.Ord.cmp m c.args.theirs.now) c.deref.ensures (c.can_share.ensures.before c.if-can_share.true))
    c.in_ok-share.ensures

pub returns : goal.returns
returns g c =
    subst (λ m. IsMergedPart g.K.Ord.cmp (g.C.Combine.combined c.args.how.now) m c.args.built.now c.args.theirs.now c.merge_part.new.built c.merge_part.new.theirs) (c.entries-2.ensures ∙ c.deref-2.ensures) c.in_ok-merge_part.ensures
