use Rattle.std.proofs.Common.{◌++◌, ◌∷◌, [], ◌<◌, length, map, take, Some, None, sym, ap, ◌∙◌, arith, append-nil}
use Rattle.dac_crews.specs.Callers.{event_of}
use Rattle.dac_phases.specs.laws.Common.{found, event_one, false≢true, eq-eqb, length-map, found_more}
use Rattle.std.proofs.lemmas.Bool.{eqb-true}
use Rattle.std.proofs.lemmas.List.{take_all, get_or_default}
use Rattle.dac_workers.specs.laws.Found.{taken_more, found_within, found_same, found_all}
use Rattle.dac_phases.proofs.asked.are_asked.Goals as goal
use Rattle.dac_phases.proofs.asked.are_asked.Goals.{in-Some+else-next-asked+else-not-is, in-None}

pub loop-i-preserved : goal.loop-i-preserved
loop-i-preserved c =
    let f = event_one c.args.seat in
    let rs = c.args.records.now in
    let one = c.index-records-i.result in
    elim c.match-event_of.branch [
      | in-Some+else-next-asked+else-not-is w ↦
          let m = w.in-Some.event in
          let eq = w.is.ensures.0 w.if-not-is.false in
          let lt : c.loop-i.next < length c.args.asked.now = omega (arith, w.if-next-asked.false) in
          rw w.next-is (record {
            within = omega (arith, lt);
            same = found_more f rs c.loop-i.i one (Some m.now) c.loop-i-test.true c.index-records-i.is (sym w.in-Some.ensures) ∙ (λ j. c.loop-i.invariant.same j ++ eq j ∷ []) ∙ sym (taken_more event_of c.args.asked.now c.loop-i.next _ lt (get_or_default c.args.asked.now c.loop-i.next _ _ lt));
          })
      | in-None w ↦
          rw w.next-is (record {
            within = c.loop-i.invariant.within;
            same = found_more f rs c.loop-i.i one None c.loop-i-test.true c.index-records-i.is (sym w.in-None.ensures) ∙ append-nil (found f (take c.loop-i.i rs)) ∙ c.loop-i.invariant.same;
          })
    ]

pub returns-then-next-asked : goal.returns-then-next-asked
returns-then-next-asked c =
    let f = event_one c.args.seat in
    (λ e. absurd (false≢true e), λ same. absurd (omega (arith, found_within f event_of c.args.records.now c.loop-i.i c.index-records-i.result c.in-Some.event.now c.args.asked.now c.loop-i.next c.loop-i-test.true c.index-records-i.is (sym c.in-Some.ensures) c.loop-i.invariant.within c.loop-i.invariant.same same, c.if-next-asked.true)))

pub returns-then-not-is : goal.returns-then-not-is
returns-then-not-is c =
    let f = event_one c.args.seat in
    let lt : c.loop-i.next < length c.args.asked.now = omega (arith, c.if-next-asked.false) in
    (λ e. absurd (false≢true e), λ same. c.if-not-is.ensures.1 (found_same f event_of c.args.records.now c.loop-i.i c.index-records-i.result c.in-Some.event.now c.args.asked.now c.loop-i.next _ c.loop-i-test.true c.index-records-i.is (sym c.in-Some.ensures) lt (get_or_default c.args.asked.now c.loop-i.next _ _ lt) c.loop-i.invariant.same same))

pub returns : goal.returns
returns c =
    let f = event_one c.args.seat in
    let past = c.loop-i-test.false in
    let so_far = c.loop-i.invariant.same in (
      λ e. ap (found f) (sym (take_all c.loop-i.i c.args.records.now past)) ∙ so_far ∙ take_all c.loop-i.next (map event_of c.args.asked.now) (omega (arith, length-map c.args.asked.now event_of, eqb-true c.loop-i.next (length c.args.asked.now) e)),
      λ same. eq-eqb c.loop-i.next (length c.args.asked.now) (found_all f event_of c.args.records.now c.loop-i.i c.args.asked.now c.loop-i.next past c.loop-i.invariant.within so_far same),
    )
