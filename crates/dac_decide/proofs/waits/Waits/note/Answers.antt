use Rattle.std.proofs.Common.{◌≡◌, ◌<◌, length, set, ap, ap₂, ◌∙◌, arith, length-set}
use Rattle.dac_config.specs.Table.{app_count}
use Rattle.dac_decide.specs.FailoverWait.{Note, waits_of, noted_next}
use Rattle.dac_decide.specs.laws.Kept.{length_waits}
use Rattle.dac_decide.proofs.Places.{partly, partly_at, partly_more, partly_all}
use Rattle.dac_decide.proofs.waits.Waits.note.Goals as goal

pub loop-place-preserved : goal.loop-place-preserved
loop-place-preserved c = record {
  places = length-set _ _ _ ∙ c.loop-place.invariant.places;
  partly = λ notes stands.
      let table = c.args.config.now in
      let note : Note = record { state = c.args.state.now; moment = c.args.now } in
      let items = c.loop-place.self-inside.noted.items in
      let place = c.loop-place.place in
      let here = c.loop-place.invariant.partly notes stands in
      let below = c.loop-place-test.true in
      let least = c.min-places.ensures in
      let count = c.apps.ensures.count in
      let lt : place < app_count table = omega arith in
      ap (set items place)
      (c.noted_next.ensures ∙ ap₂ (λ before lost. noted_next before lost c.args.now) (c.index.ensures ∙ partly_at table note notes place items _ lt here) c.lost_claim-lost.ensures)
      ∙ partly_more table note notes place items lt here;
}

pub returns-clause-value : goal.returns-clause-value
returns-clause-value c = λ notes stands.
    let table = c.args.config.now in
    let note : Note = record { state = c.args.state.now; moment = c.args.now } in
    let before : c.self.inside.noted.items ≡ waits_of table notes = c.self.view_is ∙ stands in
    let up_to = c.loop-place.auto.place-end in
    let not_below = c.loop-place-test.false in
    let least = c.min-places.ensures in
    let places = c.len.ensures in
    let all = ap length before ∙ length_waits table notes in
    let count = c.apps.ensures.count in
    let end : c.loop-place.place ≡ app_count table = omega arith in
    c.loop-place.invariant.partly notes before ∙ ap (partly table note notes) end ∙ partly_all table note notes

pub returns-clause-number : goal.returns-clause-number
returns-clause-number c = c.loop-place.invariant.places ∙ ap length c.self.view_is
