use Rattle.std.proofs.Common.{arith, sym, ◌∙◌}
use Rattle.std.proofs.lemmas.Bool.{false≢true}
use Rattle.dac_sites.specs.laws.Calls.{record_left, call_differs, call_left, call_same, record_passed, all_same}
use Rattle.dac_sites.proofs.laws.same_calls.Goals as goal
use Rattle.dac_sites.proofs.laws.same_calls.Goals.{then-one-seat+else-next-calls+else-not-is_record, else-one-seat}

pub returns-then-next-calls : goal.returns-then-next-calls
returns-then-next-calls c = record_left _ _ _ _ _ c.index-records-i.result c.loop-i-test.true c.index-records-i.is c.if-one-seat.true c.loop-i.invariant.same (grind (arith, c.loop-i.invariant.within))

pub returns-then-not-is_record : goal.returns-then-not-is_record
returns-then-not-is_record c =
    rw c.min.ensures
    (call_differs _ _ _ _ _ c.index-records-i.result c.index-calls-next.result c.loop-i-test.true c.index-records-i.is c.if-one-seat.true c.loop-i.invariant.same c.if-next-calls.false c.index-calls-next.is (λ e. false≢true (sym c.if-not-is_record.true ∙ c.is_record.ensures.1 e)))

pub loop-i-preserved : goal.loop-i-preserved
loop-i-preserved c =
    elim c.if-one-seat.branch [
      | then-one-seat+else-next-calls+else-not-is_record w ↦
          rw w.next-is (record {
            within = omega (arith, w.if-next-calls.false);
            same = call_same _ _ _ _ _ c.index-records-i.result w.index-calls-next.result c.loop-i-test.true c.index-records-i.is w.if-one-seat.true c.loop-i.invariant.same w.if-next-calls.false w.index-calls-next.is (w.is_record.ensures.0 w.if-not-is_record.false);
          })
      | else-one-seat w ↦
          rw w.next-is (record { within = c.loop-i.invariant.within; same = record_passed _ _ _ _ _ c.index-records-i.result c.loop-i-test.true c.index-records-i.is w.if-one-seat.false c.loop-i.invariant.same })
    ]

pub returns-then-next-calls-2 : goal.returns-then-next-calls-2
returns-then-next-calls-2 c = call_left c.args.seat c.loop-i.next c.args.records.now c.args.calls.now c.index-calls-next-then-next-calls-2.result (all_same c.args.seat c.loop-i.i c.args.records.now _ c.loop-i-test.false c.loop-i.invariant.same) c.if-next-calls-2.true c.index-calls-next-then-next-calls-2.is
