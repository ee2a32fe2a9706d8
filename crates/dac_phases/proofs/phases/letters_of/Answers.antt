use Rattle.std.proofs.Common.{◌≡◌, suc, ◌+◌, ◌-◌, drop, ap, arith}
use Rattle.dac_phases.specs.Ends.{first_letters}
use Rattle.dac_crews.specs.Compared.{shipped_in}
use Rattle.dac_phases.proofs.Counted.{count_few, letters_own, letters_other, letters_past}
use Rattle.dac_phases.proofs.phases.letters_of.Goals as goal
use Rattle.dac_phases.proofs.phases.letters_of.Goals.{then-one-seat, else-one-seat}

pub loop-i-preserved : goal.loop-i-preserved
loop-i-preserved c =
    let seat = c.args.seat in
    let rs = c.args.records.now in
    let i = c.loop-i.i in
    let r = c.index-records-i.result in
    let left_is : c.loop-i.left ≡ suc (c.loop-i.left - 1) = omega (arith, c.if-left-eq0.false) in
    elim c.if-one-seat.branch [
      | then-one-seat w ↦
          let own = letters_own seat rs i r c.loop-i-test.true c.index-records-i.is c.loop-i.left (c.loop-i.left - 1) left_is w.if-one-seat.true in
          let less : first_letters seat c.if-one-seat.left (drop (i + 1) rs) ≡ first_letters seat (c.loop-i.left - 1) (drop (i + 1) rs) = ap (λ n. first_letters seat n (drop (i + 1) rs)) w.left-is in
          record { counted = omega (arith, own, less, w.letters-is, w.letters_in-letters.ensures, c.loop-i.invariant.counted); few = omega (arith, w.left-is, w.letters-is, w.letters_in-letters.ensures, count_few (shipped_in r.answer), c.if-left-eq0.false, c.loop-i.invariant.few) }
      | else-one-seat w ↦
          let other = letters_other seat rs i r c.loop-i-test.true c.index-records-i.is c.loop-i.left (c.loop-i.left - 1) left_is w.if-one-seat.false in
          let same : first_letters seat c.if-one-seat.left (drop (i + 1) rs) ≡ first_letters seat c.loop-i.left (drop (i + 1) rs) = ap (λ n. first_letters seat n (drop (i + 1) rs)) w.left-is in
          record { counted = omega (arith, other, same, w.letters-is, c.loop-i.invariant.counted); few = omega (arith, w.left-is, w.letters-is, c.loop-i.invariant.few) }
    ]

pub returns-clause-counted : goal.returns-clause-counted
returns-clause-counted c = omega (arith, letters_past c.args.seat c.loop-i.left c.args.records.now c.loop-i.i c.loop-i-test.false, c.loop-i.invariant.counted)
