use Rattle.std.proofs.Common.{◌++◌, ◌+◌, ◌∙◌, ap, subst, sym}
use Rattle.std.specs.Arc.{arc_value}
use Rattle.std.specs.List.{flat_map}
use Rattle.dac_lattice.specs.Entries.{merge_entries}
use Rattle.dac_lattice.specs.Search.{IsInOrder}
use Rattle.dac_sorted.specs.Digests.{SaysAll}
use Rattle.dac_sorted.proofs.JoinLemmas.{merged_all, merged_on}
use Rattle.dac_sorted.specs.laws.Parted.{each_left, each_right, sorted_left, sorted_right}
use Rattle.dac_sorted.proofs.PartLemmas.{rest_last, rest_of, rest_step}
use Rattle.dac_sorted.proofs.merging.merge_parts.Goals as goal

pub loop-block-init : goal.loop-block-init
loop-block-init g c =
    let f = g.C.Combine.combined c.args.how.now in
    record {
      merged = ap (λ l. l ++ merge_entries g.K.Ord.cmp f (flat_map arc_value c.args.blocks.now ++ c.args.last.now) c.args.theirs) c.in_ok-built.ensures;
      in_order = c.requires.in_order;
      fits = c.requires.fits;
    }

pub merge_block-requires : goal.merge_block-requires
merge_block-requires g c =
    let fits = g.C.Sharing.fits c.args.how.now in
    let b = arc_value c.block-item.result in
    let next = rest_of arc_value c.args.blocks.now c.args.last.now (c.loop-block.block-index + 1) in
    let split = rest_step arc_value c.args.blocks.now c.args.last.now c.loop-block.block-index c.block-item.result c.loop-block-test.true c.block-item.is in
    record {
      in_order = sorted_left g.K.Ord.cmp b next (subst (IsInOrder g.K.Ord.cmp) split c.loop-block.invariant.in_order);
      fits = each_left (λ e. fits e.0 e.1) b next (subst (SaysAll fits) split c.loop-block.invariant.fits);
    }

pub loop-block-preserved : goal.loop-block-preserved
loop-block-preserved g c =
    let f = g.C.Combine.combined c.args.how.now in
    let fits = g.C.Sharing.fits c.args.how.now in
    let b = arc_value c.block-item.result in
    let next = rest_of arc_value c.args.blocks.now c.args.last.now (c.loop-block.block-index + 1) in
    let split = rest_step arc_value c.args.blocks.now c.args.last.now c.loop-block.block-index c.block-item.result c.loop-block-test.true c.block-item.is in
    record {
      merged = merged_on g.K.Ord.cmp f c.loop-block.built c.merge_block.new.built (rest_of arc_value c.args.blocks.now c.args.last.now c.loop-block.block-index) b next c.loop-block.others c.merge_block.new.theirs
          (merge_entries g.K.Ord.cmp f (flat_map arc_value c.args.blocks.now ++ c.args.last.now) c.args.theirs) c.loop-block.invariant.merged split c.in_ok-merge_block.ensures;
      in_order = sorted_right g.K.Ord.cmp b next (subst (IsInOrder g.K.Ord.cmp) split c.loop-block.invariant.in_order);
      fits = each_right (λ e. fits e.0 e.1) b next (subst (SaysAll fits) split c.loop-block.invariant.fits);
    }

pub returns : goal.returns
returns g c =
    let f = g.C.Combine.combined c.args.how.now in
    let last = rest_last arc_value c.args.blocks.now c.args.last.now c.loop-block.block-index c.loop-block-test.false in
    merged_all g.K.Ord.cmp f c.loop-block.built c.merge_part.new.built c.put_rest.new.built c.args.last.now c.loop-block.others c.merge_part.new.theirs (merge_entries g.K.Ord.cmp f (flat_map arc_value c.args.blocks.now ++ c.args.last.now) c.args.theirs)
    (ap (λ l. c.loop-block.built ++ merge_entries g.K.Ord.cmp f l c.loop-block.others) (sym last) ∙ c.loop-block.invariant.merged) c.in_ok-merge_part.ensures c.in_ok-put_rest.ensures
