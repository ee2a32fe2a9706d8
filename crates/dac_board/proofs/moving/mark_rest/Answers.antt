use Rattle.dac_board.proofs.Walks.{absent_passed, none_absent, one_fewer}
use Rattle.dac_board.proofs.moving.mark_rest.Goals as goal

pub loop-key-init : goal.loop-key-init
loop-key-init g c = record { before = λ k e. e; gone = λ k e none. none }

pub loop-key-preserved : goal.loop-key-preserved
loop-key-preserved g c =
    let before = c.loop-key.invariant in
    record {
      before = λ k e. before.before k (c.count_moved.ensures.before k e);
      gone = λ k e none. before.gone k (c.count_moved.ensures.before k e)
          (absent_passed k c.loop-key.left c.next.new.self c.in-Some.field-0.now c.in-Some.ensures (c.count_moved.ensures.own k e) none);
    }

pub loop-key-smaller : goal.loop-key-smaller
loop-key-smaller g c = one_fewer c.loop-key.left c.next.new.self c.in-Some.field-0.now c.in-Some.ensures

pub returns : goal.returns
returns g c = record {
  before = c.loop-key.invariant.before;
  gone = λ k e. c.loop-key.invariant.gone k e (none_absent k c.loop-key.left c.in_default.ensures.0);
}
