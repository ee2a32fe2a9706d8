use Rattle.std.proofs.Common.{◌≡◌, ◌<◌, refl, sym, ap, subst, ◌∙◌, arith, below_more}
use Rattle.std.specs.Prelude.{is_some}
use Rattle.std.proofs.lemmas.Bool.{false≢true}
use Rattle.dac_config.specs.Table.{app_count}
use Rattle.dac_decide.specs.FailoverWait.{lost_in}
use Rattle.dac_decide.specs.laws.Kept.{numbered}
use Rattle.dac_decide.specs.Quiet.{IsQuiet, AreQuiet}
use Rattle.dac_decide.proofs.Quiet.{none_is, quiet_stays, standing_lost}
use Rattle.dac_decide.proofs.waits.Waits.are_quiet.Goals as goal
use Rattle.dac_decide.proofs.waits.Waits.are_quiet.Goals.{then-is_some-via-then-is_some, then-is_some-via-else-is_some+then-is_lost}

pub returns-then-is_some-clause-cases : goal.returns-then-is_some-clause-cases
returns-then-is_some-clause-cases c = λ s shows.
    let t = c.args.config.now in
    let app = numbered c.loop-number.number in
    let below = c.loop-number-test.true in
    let count = c.apps-number-end.ensures.count in
    let lt : c.loop-number.number < app_count t = omega arith in (
      λ e. absurd (false≢true e),
      λ quiet. elim c.then-is_some.branch [
        | then-is_some-via-then-is_some w ↦ sym (ap is_some (c.noted_of.ensures ∙ (quiet app lt).noted)) ∙ (sym c.is_some.ensures ∙ w.if-is_some.true)
        | then-is_some-via-else-is_some+then-is_lost w ↦ sym (ap is_some (quiet app lt).lost) ∙ (sym (standing_lost t s app) ∙ (sym (w.is_lost.ensures t s shows lt) ∙ w.if-is_lost.true))
      ],
    )

pub loop-number-preserved : goal.loop-number-preserved
loop-number-preserved c = λ s shows.
    let t = c.args.config.now in
    let app = numbered c.loop-number.number in
    let below = c.loop-number-test.true in
    let count = c.apps-number-end.ensures.count in
    let lt : c.loop-number.number < app_count t = omega arith in
    below_more (λ k. IsQuiet c.args.self.now s (numbered k)) c.loop-number.number (c.loop-number.invariant s shows) (record {
      noted = sym c.noted_of.ensures ∙ none_is c.noted_of.result (sym c.is_some.ensures ∙ c.if-is_some.false);
      lost = none_is (lost_in s app) (sym (standing_lost t s app) ∙ (sym (c.is_lost.ensures t s shows lt) ∙ c.if-is_lost.false));
    })

pub returns-clause-cases : goal.returns-clause-cases
returns-clause-cases c = λ s shows.
    let up_to = c.loop-number.auto.number-end in
    let past = c.loop-number-test.false in
    let count = c.apps-number-end.ensures.count in
    let end : c.loop-number.number ≡ app_count c.args.config.now = omega arith in
    (λ _. λ app lt. c.loop-number.invariant s shows app.0 (omega (arith, lt, end)), λ _. refl)

pub returns-clause-stays : goal.returns-clause-stays
returns-clause-stays c = λ notes note stands shows _.
    let t = c.args.config.now in
    let up_to = c.loop-number.auto.number-end in
    let past = c.loop-number-test.false in
    let count = c.apps-number-end.ensures.count in
    let end : c.loop-number.number ≡ app_count t = omega arith in
    let quiet : AreQuiet t c.args.self.now note.state = λ app lt. c.loop-number.invariant note.state shows app.0 (omega (arith, lt, end)) in
    stands ∙ quiet_stays t notes note (subst (λ waits. AreQuiet t waits note.state) stands quiet)
