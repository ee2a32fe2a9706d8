use Rattle.std.proofs.Common.{◌++◌, refl, sym, ap, subst, arith}
use Rattle.std.proofs.lemmas.Result.{IfOk-from_err}
use Rattle.dac_deltas.specs.KeptDeltas.{KeptDeltas}
use Rattle.dac_deltas.specs.Blocks.{AreBlocks}
use Rattle.dac_deltas.proofs.Few.{few_blocks}
use Rattle.dac_deltas.proofs.Listing.{block_end, listing_one, listing_all}
use Rattle.dac_deltas.proofs.buffer.Buffer.blocks.Goals as goal

pub returns-clause-blocks : goal.returns-clause-blocks
returns-clause-blocks g c = subst (λ (k : KeptDeltas g.row.L.Denot). AreBlocks c.args.a k.count c.loop-at.blocks.items) c.self.view_is (listing_all c.args.a c.self.inside.count c.loop-at.at c.loop-at.blocks.items c.loop-at-test.false c.loop-at.invariant)

pub returns-clause-few : goal.returns-clause-few
returns-clause-few g c =
    let shown = ap (λ (k : KeptDeltas g.row.L.Denot). k.count) c.self.view_is in
    let base = ap (λ (k : KeptDeltas g.row.L.Denot). k.base) c.self.view_is in
    let buffer = c.self.invariant.kept.buffer in
    few_blocks c.loop-at.blocks.items c.args.a c.self.inside.count (omega arith) (omega arith) (listing_all c.args.a c.self.inside.count c.loop-at.at c.loop-at.blocks.items c.loop-at-test.false c.loop-at.invariant)

pub loop-at-init : goal.loop-at-init
loop-at-init g c =
    let shown = ap (λ (k : KeptDeltas g.row.L.Denot). k.count) c.self.view_is in
    record { from = omega arith; to = omega arith; all = λ rest w. subst (AreBlocks c.args.a c.self.inside.count) (sym (ap (λ bs. bs ++ rest) c.new-blocks.ensures.items)) w }

pub overflow_shl-end : goal.overflow_shl-end
overflow_shl-end g c = let small = c.level_at.ensures.small in omega arith

pub overflow_add-end : goal.overflow_add-end
overflow_add-end g c =
    let ends = block_end c.self.inside.count c.loop-at.at c.level_at.result c.loop-at-test.true c.level_at.ensures in
    let countable = c.self.invariant.kept.buffer.countable in
    omega arith

pub returns-in_err-push-clause-kept : goal.returns-in_err-push-clause-kept
returns-in_err-push-clause-kept g c _ = IfOk-from_err c.from_residual.result _ c.from_residual.ensures.0

pub returns-in_err-push-clause-blocks : goal.returns-in_err-push-clause-blocks
returns-in_err-push-clause-blocks g c = IfOk-from_err c.from_residual.result _ c.from_residual.ensures.0

pub returns-in_err-push-clause-few : goal.returns-in_err-push-clause-few
returns-in_err-push-clause-few g c = IfOk-from_err c.from_residual.result _ c.from_residual.ensures.0

pub loop-at-preserved : goal.loop-at-preserved
loop-at-preserved g c =
    listing_one c.args.a c.self.inside.count c.loop-at.at _ c.level_at.result c.loop-at.blocks.items c.push.new.self.items c.loop-at-test.true c.level_at.ensures refl c.in_ok-push.ensures.items c.loop-at.invariant

pub returns-clause-kept : goal.returns-clause-kept
returns-clause-kept g c _ = refl
