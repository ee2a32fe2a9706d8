use Rattle.std.proofs.Common.{◌++◌, ap, sym, subst, ◌∙◌}
use Rattle.std.proofs.lemmas.Result.{IfOk-from_err}
use Rattle.std.specs.VecDeque.Iter.{deque_iter_rest}
use Rattle.dac_deltas.specs.KeptDeltas.{newest}
use Rattle.dac_deltas.specs.BlockEnds.{IsKept, IsReady, deltas_of}
use Rattle.dac_deltas.proofs.Copying.{copied_next, copied_whole}
use Rattle.dac_deltas.proofs.buffer.Buffer.copy.Goals as goal

pub loop-ending-init : goal.loop-ending-init
loop-ending-init g c = ap (λ es. es ++ deque_iter_rest c.into_iter-ending-iterator.result) c.new-kept.ensures.items ∙ c.into_iter-ending-iterator.ensures.into_iter_gives.0

pub returns-in_err-copy : goal.returns-in_err-copy
returns-in_err-copy g c = IfOk-from_err c.from_residual.result _ c.from_residual.ensures.0

pub loop-ending-preserved : goal.loop-ending-preserved
loop-ending-preserved g c =
    copied_next c.loop-ending.kept.items c.push_back.new.self.items (deque_iter_rest c.loop-ending.ending-iterator) (deque_iter_rest c.next.new.self) c.self.inside.kept.items c.in-Some.ending.now c.in_ok-copy.field-0
    c.in-Some.ensures.steps c.loop-ending.invariant c.in_ok-copy.ensures c.in_ok-push_back.ensures.items

pub returns-in_err-push_back : goal.returns-in_err-push_back
returns-in_err-push_back g c = IfOk-from_err c.from_residual-in_err-push_back.result _ c.from_residual-in_err-push_back.ensures.0

pub invariant_of-result : goal.invariant_of-result
invariant_of-result g c =
    let join = g.L.Lattice.join in
    let whole = copied_whole c.loop-ending.kept.items (deque_iter_rest c.loop-ending.ending-iterator) c.self.inside.kept.items c.in-None.ensures.steps.0 c.loop-ending.invariant in
    let ready = subst (λ es. IsReady join g.L.Bottom.bottom (newest c.self.inside.count (deltas_of es)) c.in_ok-copy_ready.field-0) (sym whole) (subst (IsReady join g.L.Bottom.bottom (newest c.self.inside.count (deltas_of c.self.inside.kept.items))) (sym c.in_ok-copy_ready.ensures) c.self.invariant.ready) in
    record { kept = subst (IsKept g.L.Lattice.is_value join c.self.inside.count) (sym whole) c.self.invariant.kept; ready = ready }

pub returns : goal.returns
returns g c =
    let whole = copied_whole c.loop-ending.kept.items (deque_iter_rest c.loop-ending.ending-iterator) c.self.inside.kept.items c.in-None.ensures.steps.0 c.loop-ending.invariant in
    ap (λ es. newest c.self.inside.count (deltas_of es)) whole ∙ c.self.view_is
