use Rattle.std.proofs.Common.{◌≡◌, ◌+◌, Bool, true, false, cond, eqb, sym, ap, ◌∙◌, arith}
use Rattle.dac_phases.specs.laws.Common.{shipper_seat}
use Rattle.dac_phases.specs.Ends.{first_letters}
use Rattle.dac_phases.proofs.Counted.{links_more, links_own, is_not}
use Rattle.dac_phases.proofs.phases.part_len.Goals as goal
use Rattle.dac_phases.proofs.phases.part_len.Goals.{then-ne, else-ne}

pub loop-i-preserved : goal.loop-i-preserved
loop-i-preserved c =
    let node = c.args.node.0 in
    let js = c.args.journals.now in
    let i = c.loop-i.i in
    elim c.if-ne.branch [
      | then-ne w ↦
          let j = w.index-journals-i.result in
          let other : eqb i node ≡ false = is_not (eqb i node) true (sym c.ne.ensures ∙ w.if-ne.true) in
          let more = links_more node js i j c.loop-i-test.true w.index-journals-i.is in
          let item = ap (λ (b : Bool). cond b 0 (first_letters (shipper_seat i node) 5 j.now + 5)) other in
          let sent = w.letters_of-letters.ensures.counted ∙ ap (λ s. first_letters s 5 j.now) w.shipper_seat.ensures in
          omega (arith, more, item, sent, w.saturating_add-count.ensures, w.count-is, c.loop-i.invariant)
      | else-ne w ↦
          let own : eqb i node ≡ true = is_not (eqb i node) false (sym c.ne.ensures ∙ w.if-ne.false) in
          let same = links_own node js i c.loop-i-test.true own in
          omega (arith, same, w.count-is, c.loop-i.invariant)
    ]
