use Rattle.std.proofs.Common.{◌≡◌, ◌+◌, ◌++◌, ◌∷◌, [], length, take, sym, ap, ◌∙◌, arith}
use Rattle.dac_live.proofs.Common.{calls_of, receipt_after}
use Rattle.std.proofs.lemmas.List.{take_all}
use Rattle.dac_live.proofs.Followed.{fronts_from, calls_other, last_mine, all_mine, spans_end}
use Rattle.dac_live.proofs.receipts.spans_of.Goals as goal
use Rattle.dac_live.proofs.receipts.spans_of.Goals.{then-one-seat+in_ok-push, else-one-seat}

pub loop-i-preserved : goal.loop-i-preserved
loop-i-preserved c =
    let s = c.args.seat in
    let rs = c.args.records.now in
    let i = c.loop-i.i in
    let one = c.index-records-i.result in
    elim c.if-one-seat.branch [
      | then-one-seat+in_ok-push w ↦
          let last = last_mine s i c.loop-i.last rs one c.loop-i-test.true c.index-records-i.is w.if-one-seat.true c.loop-i.invariant.last in
          let all = all_mine s i c.loop-i.last rs one c.loop-i.all.items c.loop-i-test.true c.index-records-i.is w.if-one-seat.true c.loop-i.invariant.last c.loop-i.invariant.all in
          rw (w.last-is, w.all-is) (record {
            last = w.receipt_by-last.ensures ∙ last;
            all = w.in_ok-push.ensures.items ∙ all;
          })
      | else-one-seat w ↦
          let same = calls_other s i rs one c.loop-i-test.true c.index-records-i.is w.if-one-seat.false in
          rw (w.last-is, w.all-is) (record { last = c.loop-i.invariant.last ∙ ap (receipt_after 0) (sym same); all = c.loop-i.invariant.all ∙ ap (fronts_from 0) (sym same) })
    ]

pub returns : goal.returns
returns c =
    let rs = c.args.records.now in
    let calls = calls_of c.args.seat rs in
    let whole : take c.loop-i.i rs ≡ rs = take_all c.loop-i.i rs (omega arith) in
    let last : c.loop-i.last ≡ receipt_after 0 calls = c.loop-i.invariant.last ∙ ap (λ l. receipt_after 0 (calls_of c.args.seat l)) whole in
    let all : c.loop-i.all.items ≡ fronts_from 0 calls = c.loop-i.invariant.all ∙ ap (λ l. fronts_from 0 (calls_of c.args.seat l)) whole in
    c.in_ok-push-2.ensures.items ∙ (λ j. all j ++ (last j, length rs + 1) ∷ []) ∙ sym (spans_end 0 (length rs + 1) calls)
