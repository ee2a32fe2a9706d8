use Rattle.std.proofs.Common.{◌+◌, ◌++◌, ◌∷◌, [], take, map, Some, None, Bor, sym, ap, ◌∙◌, append-nil}
use Rattle.dac_workers.specs.laws.Common.{Message, found, sent_one}
use Rattle.std.proofs.lemmas.List.{map_push}
use Rattle.dac_workers.specs.laws.Found.{found_more}
use Rattle.dac_workers.proofs.compare.sent_by.Goals as goal
use Rattle.dac_workers.proofs.compare.sent_by.Goals.{in-Some+in_ok-push-in-Some, in-None}

pub loop-i-preserved : goal.loop-i-preserved
loop-i-preserved c =
    let f = sent_one c.args.seat in
    let rs = c.args.records.now in
    let one = c.index-records-i.result in
    let now = λ (m : Bor Message). m.now in
    elim c.match-sent_one.branch [
      | in-Some+in_ok-push-in-Some w ↦
          let m = w.in-Some.message in
          rw w.all-is
          (ap (map now) w.in_ok-push-in-Some.ensures.items ∙ map_push now c.loop-i.all.items m ∙ ap (λ l. l ++ m.now ∷ []) c.loop-i.invariant
          ∙ sym (found_more f rs c.loop-i.i one (Some m.now) c.loop-i-test.true c.index-records-i.is (sym w.in-Some.ensures)))
      | in-None w ↦
          rw w.all-is (c.loop-i.invariant ∙ sym (found_more f rs c.loop-i.i one None c.loop-i-test.true c.index-records-i.is (sym w.in-None.ensures) ∙ append-nil (found f (take c.loop-i.i rs))))
    ]
