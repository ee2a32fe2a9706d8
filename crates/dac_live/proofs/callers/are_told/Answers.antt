use Rattle.std.proofs.Common.{◌≡◌, ◌++◌, ◌∷◌, [], ◌<◌, length, map, take, Some, None, Result, Bor, sym, ap, ◌∙◌, arith, append-nil}
use Rattle.dac_live.proofs.Common.{Reply, Refusal, found, answer_one, found_more}
use Rattle.std.proofs.lemmas.Bool.{false≢true, eqb-true, eq-eqb}
use Rattle.std.proofs.lemmas.List.{length-map, take_all}
use Rattle.dac_workers.specs.laws.Found.{taken_more, found_within, found_same, found_all}
use Rattle.dac_live.proofs.callers.are_told.Goals as goal
use Rattle.dac_live.proofs.callers.are_told.Goals.{in-Some+else-next-told+else-not-same_answer, in-None}

pub loop-i-preserved : goal.loop-i-preserved
loop-i-preserved c =
    let f = answer_one c.args.seat in
    let rs = c.args.records.now in
    let one = c.index-records-i.result in
    let now = λ (m : Bor (Result Reply Refusal)). m.now in
    elim c.match-answer_of.branch [
      | in-Some+else-next-told+else-not-same_answer w ↦
          let m = w.in-Some.answer in
          let wanted = w.index-told-next.result in
          let eq : wanted.now ≡ m.now = w.same_answer.ensures.0 w.if-not-same_answer.false in
          let lt : c.loop-i.next < length c.args.told.now = omega (arith, w.if-next-told.false) in
          rw w.next-is (record {
            within = omega (arith, lt);
            same = found_more f rs c.loop-i.i one (Some m.now) c.loop-i-test.true c.index-records-i.is (sym w.in-Some.ensures) ∙ (λ j. c.loop-i.invariant.same j ++ sym eq j ∷ []) ∙ sym (taken_more now c.args.told.now c.loop-i.next wanted lt w.index-told-next.is);
          })
      | in-None w ↦
          rw w.next-is (record {
            within = c.loop-i.invariant.within;
            same = found_more f rs c.loop-i.i one None c.loop-i-test.true c.index-records-i.is (sym w.in-None.ensures) ∙ append-nil (found f (take c.loop-i.i rs)) ∙ c.loop-i.invariant.same;
          })
    ]

pub returns-then-next-told : goal.returns-then-next-told
returns-then-next-told c =
    let f = answer_one c.args.seat in
    let now = λ (m : Bor (Result Reply Refusal)). m.now in
    (λ e. absurd (false≢true e), λ same. absurd (omega (arith, found_within f now c.args.records.now c.loop-i.i c.index-records-i.result c.in-Some.answer.now c.args.told.now c.loop-i.next c.loop-i-test.true c.index-records-i.is (sym c.in-Some.ensures) c.loop-i.invariant.within c.loop-i.invariant.same same, c.if-next-told.true)))

pub returns-then-not-same_answer : goal.returns-then-not-same_answer
returns-then-not-same_answer c =
    let f = answer_one c.args.seat in
    let now = λ (m : Bor (Result Reply Refusal)). m.now in
    let lt : c.loop-i.next < length c.args.told.now = omega (arith, c.if-next-told.false) in
    (λ e. absurd (false≢true e), λ same. c.if-not-same_answer.ensures.1 (sym (found_same f now c.args.records.now c.loop-i.i c.index-records-i.result c.in-Some.answer.now c.args.told.now c.loop-i.next c.index-told-next.result c.loop-i-test.true c.index-records-i.is (sym c.in-Some.ensures) lt c.index-told-next.is c.loop-i.invariant.same same)))

pub returns : goal.returns
returns c =
    let f = answer_one c.args.seat in
    let now = λ (m : Bor (Result Reply Refusal)). m.now in
    let past = c.loop-i-test.false in
    let so_far = c.loop-i.invariant.same in (
      λ e. ap (found f) (sym (take_all c.loop-i.i c.args.records.now past)) ∙ so_far ∙ take_all c.loop-i.next (map now c.args.told.now) (omega (arith, length-map c.args.told.now now, eqb-true c.loop-i.next (length c.args.told.now) e)),
      λ same. eq-eqb c.loop-i.next (length c.args.told.now) (found_all f now c.args.records.now c.loop-i.i c.args.told.now c.loop-i.next past c.loop-i.invariant.within so_far same),
    )
