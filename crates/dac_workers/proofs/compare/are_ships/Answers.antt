use Rattle.std.proofs.Common.{◌≡◌, ◌+◌, ◌++◌, ◌∷◌, [], suc, length, take, Some, None, sym, ap, ◌∙◌, arith, append-nil}
use Rattle.dac_workers.specs.laws.Common.{found, event_one, ships_to, false≢true, eqb-true, eq-eqb}
use Rattle.std.proofs.lemmas.List.{take_all}
use Rattle.dac_workers.specs.laws.Found.{found_more, stands}
use Rattle.dac_workers.proofs.Shipping.{ships_push, ships_many, ships_each}
use Rattle.dac_workers.proofs.compare.are_ships.Goals as goal
use Rattle.dac_workers.proofs.compare.are_ships.Goals.{in-Some+else-not-is_ship, in-None}

pub loop-i-preserved : goal.loop-i-preserved
loop-i-preserved c =
    let f = event_one c.args.seat in
    let rs = c.args.records.now in
    let one = c.index-records-i.result in
    let n = c.loop-i.count in
    let on : n + 1 ≡ suc n = omega arith in
    elim c.match-event_of.branch [
      | in-Some+else-not-is_ship w ↦
          let e = w.in-Some.event in
          let is = w.is_ship.ensures.0 w.if-not-is_ship.false in
          rw w.count-is (record {
            within = omega (arith, c.loop-i.invariant.within);
            same = found_more f rs c.loop-i.i one (Some e.now) c.loop-i-test.true c.index-records-i.is (sym w.in-Some.ensures) ∙ (λ j. c.loop-i.invariant.same j ++ is j ∷ []) ∙ ships_push c.args.to n ∙ sym (ap (ships_to c.args.to) on);
          })
      | in-None w ↦
          rw w.count-is (record {
            within = omega (arith, c.loop-i.invariant.within);
            same = found_more f rs c.loop-i.i one None c.loop-i-test.true c.index-records-i.is (sym w.in-None.ensures) ∙ append-nil (found f (take c.loop-i.i rs)) ∙ c.loop-i.invariant.same;
          })
    ]

pub returns-then-not-is_ship : goal.returns-then-not-is_ship
returns-then-not-is_ship c =
    let f = event_one c.args.seat in
    let to = c.args.to in
    let front = ships_to to c.loop-i.count in
    (λ e. absurd (false≢true e), λ same. let here = stands f c.args.records.now c.loop-i.i c.index-records-i.result c.in-Some.event.now front (ships_to to c.args.wanted) c.loop-i-test.true c.index-records-i.is (sym c.in-Some.ensures) c.loop-i.invariant.same same in c.if-not-is_ship.ensures.1 (ships_each to c.args.wanted front c.in-Some.event.now here.rest here.is))

pub returns : goal.returns
returns c =
    let f = event_one c.args.seat in
    let to = c.args.to in
    let all : found f c.args.records.now ≡ ships_to to c.loop-i.count = ap (found f) (sym (take_all c.loop-i.i c.args.records.now c.loop-i-test.false)) ∙ c.loop-i.invariant.same in (
      λ e. all ∙ ap (ships_to to) (eqb-true c.loop-i.count c.args.wanted e),
      λ same. eq-eqb c.loop-i.count c.args.wanted (sym (ships_many to c.loop-i.count) ∙ ap length (sym all ∙ same) ∙ ships_many to c.args.wanted),
    )
