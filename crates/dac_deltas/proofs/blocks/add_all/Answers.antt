use Rattle.std.proofs.Common.{◌≡◌, ◌++◌, ◌∷◌, [], length, take, ap, sym, subst, ◌∙◌, arith}
use Rattle.std.proofs.lemmas.Result.{IfOk-from_err}
use Rattle.std.specs.Vec.Iter.{into_iter_items}
use Rattle.dac_deltas.specs.BlockEnds.{AreJoined, deltas_of}
use Rattle.dac_deltas.proofs.Joining.{added_one}
use Rattle.dac_deltas.proofs.Copying.{copied_whole}
use Rattle.dac_deltas.proofs.blocks.add_all.Goals as goal

pub loop-delta-preserved : goal.loop-delta-preserved
loop-delta-preserved g c = added_one g.L.Lattice.is_value g.L.Lattice.join c.args.kept.now.items c.loop-delta.kept.items c.push_back.new.self.items c.args.deltas.items _ _ c.in-Some.delta c.loop-delta.invariant c.in-Some.ensures.steps.0 c.tells_invariant.ensures (c.in_ok-push_back.ensures.items ∙ ap (λ e. c.loop-delta.kept.items ++ e ∷ []) c.new.ensures)

pub returns-in_err-push_back-clause-joined : goal.returns-in_err-push_back-clause-joined
returns-in_err-push_back-clause-joined g c = subst (AreJoined g.L.Lattice.is_value g.L.Lattice.join) (sym c.in_err-push_back.ensures.items) c.loop-delta.invariant.joined

pub returns-in_err-push_back-clause-added : goal.returns-in_err-push_back-clause-added
returns-in_err-push_back-clause-added g c = IfOk-from_err c.from_residual.result _ c.from_residual.ensures.0

pub returns-in_err-push_back-clause-before : goal.returns-in_err-push_back-clause-before
returns-in_err-push_back-clause-before g c = ap (take (length c.args.kept.now.items)) c.in_err-push_back.ensures.items ∙ c.loop-delta.invariant.before

pub returns-clause-joined : goal.returns-clause-joined
returns-clause-joined g c = c.loop-delta.invariant.joined

pub returns-clause-before : goal.returns-clause-before
returns-clause-before g c = c.loop-delta.invariant.before

pub returns-clause-added : goal.returns-clause-added
returns-clause-added g c =
    let left = into_iter_items c.loop-delta.delta-iterator in
    let many = c.loop-delta.delta-iterator.rest.ok.0 in
    let none : length left ≡ 0 = let gone = c.in-None.ensures.steps.0 in omega arith in
    copied_whole (deltas_of c.loop-delta.kept.items) left (deltas_of c.args.kept.now.items ++ c.args.deltas.items) none c.loop-delta.invariant.added
