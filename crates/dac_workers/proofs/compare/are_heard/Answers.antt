use Rattle.std.proofs.Common.{◌≡◌, ◌++◌, ◌∷◌, [], ◌<◌, length, map, take, Some, None, Bor, sym, ap, ◌∙◌, arith, append-nil}
use Rattle.dac_workers.specs.laws.Common.{Hear, Message, found, event_one, false≢true, eqb-true, eq-eqb, length-map}
use Rattle.std.proofs.lemmas.List.{take_all}
use Rattle.dac_workers.specs.laws.Found.{found_more, taken_more, found_within, found_same, found_all}
use Rattle.dac_workers.proofs.compare.are_heard.Goals as goal
use Rattle.dac_workers.proofs.compare.are_heard.Goals.{in-Some+else-next-sent+else-not-is_heard, in-None}

pub loop-i-preserved : goal.loop-i-preserved
loop-i-preserved c =
    let f = event_one c.args.seat in
    let rs = c.args.records.now in
    let one = c.index-records-i.result in
    let hears = λ (m : Bor Message). Hear m.now in
    elim c.match-event_of.branch [
      | in-Some+else-next-sent+else-not-is_heard w ↦
          let e = w.in-Some.event in
          let wanted = w.index-sent-next.result in
          let is : e.now ≡ Hear wanted.now = w.is_heard.ensures.0 w.if-not-is_heard.false in
          let lt : c.loop-i.next < length c.args.sent.now = omega (arith, w.if-next-sent.false) in
          rw w.next-is (record {
            within = omega (arith, lt);
            same = found_more f rs c.loop-i.i one (Some e.now) c.loop-i-test.true c.index-records-i.is (sym w.in-Some.ensures) ∙ (λ j. c.loop-i.invariant.same j ++ is j ∷ []) ∙ sym (taken_more hears c.args.sent.now c.loop-i.next wanted lt w.index-sent-next.is);
          })
      | in-None w ↦
          rw w.next-is (record {
            within = c.loop-i.invariant.within;
            same = found_more f rs c.loop-i.i one None c.loop-i-test.true c.index-records-i.is (sym w.in-None.ensures) ∙ append-nil (found f (take c.loop-i.i rs)) ∙ c.loop-i.invariant.same;
          })
    ]

pub returns-then-next-sent : goal.returns-then-next-sent
returns-then-next-sent c =
    let f = event_one c.args.seat in
    let hears = λ (m : Bor Message). Hear m.now in
    (λ e. absurd (false≢true e), λ same. absurd (omega (arith, found_within f hears c.args.records.now c.loop-i.i c.index-records-i.result c.in-Some.event.now c.args.sent.now c.loop-i.next c.loop-i-test.true c.index-records-i.is (sym c.in-Some.ensures) c.loop-i.invariant.within c.loop-i.invariant.same same, c.if-next-sent.true)))

pub returns-then-not-is_heard : goal.returns-then-not-is_heard
returns-then-not-is_heard c =
    let f = event_one c.args.seat in
    let hears = λ (m : Bor Message). Hear m.now in
    let lt : c.loop-i.next < length c.args.sent.now = omega (arith, c.if-next-sent.false) in
    (λ e. absurd (false≢true e), λ same. c.if-not-is_heard.ensures.1 (found_same f hears c.args.records.now c.loop-i.i c.index-records-i.result c.in-Some.event.now c.args.sent.now c.loop-i.next c.index-sent-next.result c.loop-i-test.true c.index-records-i.is (sym c.in-Some.ensures) lt c.index-sent-next.is c.loop-i.invariant.same same))

pub returns : goal.returns
returns c =
    let f = event_one c.args.seat in
    let hears = λ (m : Bor Message). Hear m.now in
    let past = c.loop-i-test.false in
    let so_far = c.loop-i.invariant.same in (
      λ e. ap (found f) (sym (take_all c.loop-i.i c.args.records.now past)) ∙ so_far ∙ take_all c.loop-i.next (map hears c.args.sent.now) (omega (arith, length-map c.args.sent.now hears, eqb-true c.loop-i.next (length c.args.sent.now) e)),
      λ same. eq-eqb c.loop-i.next (length c.args.sent.now) (found_all f hears c.args.records.now c.loop-i.i c.args.sent.now c.loop-i.next past c.loop-i.invariant.within so_far same),
    )
