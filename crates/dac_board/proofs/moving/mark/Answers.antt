use Rattle.dac_board.proofs.Walks.{same_absent}
use Rattle.dac_board.proofs.moving.mark.Goals as goal

pub walk-init : goal.walk-init
walk-init g c = record { marked = λ k e. e; same = λ k e same. same }

pub walk-preserved : goal.walk-preserved
walk-preserved g c = record {
  marked = λ k e. c.walk.invariant.marked k (c.pass.ensures.before k e);
  same = λ k e same. c.walk.invariant.same k (c.pass.ensures.before k e) (c.pass.ensures.same k e same);
}

pub walk-smaller : goal.walk-smaller
walk-smaller g c = c.pass.ensures.less c.walk-test.true

pub returns-clause-before : goal.returns-clause-before
returns-clause-before g c k e = c.walk.invariant.marked k (c.pass.ensures.before k (c.mark_rest.ensures.before k (c.mark_rest-2.ensures.before k e)))

pub returns-clause-same : goal.returns-clause-same
returns-clause-same g c k e =
    let last = c.mark_rest-2.ensures.before k e in
    let first = c.mark_rest.ensures.before k last in
    c.walk.invariant.same k (c.pass.ensures.before k first) (c.pass.ensures.same k first
    (same_absent k c.pass.new.old c.pass.new.new (c.mark_rest.ensures.gone k last) (c.mark_rest-2.ensures.gone k e)))
