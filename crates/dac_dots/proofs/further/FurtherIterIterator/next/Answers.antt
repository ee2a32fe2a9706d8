use Rattle.std.proofs.Common.{◌≡◌, ◌∷◌, ◌∙◌, length, ap, sym, arith}
use Rattle.dac_dots.specs.declared.further.FurtherIter.{FurtherIter}
use Rattle.dac_dots.specs.Walking.{counters_along, counters_left, left_of}
use Rattle.dac_dots.proofs.AlongLemmas.{after_first}
use Rattle.dac_dots.proofs.further.FurtherIterIterator.next.Goals as goal
use Rattle.dac_dots.proofs.further.FurtherIterIterator.next.Goals.{After-self-1, in-Some, in-None+in_ok-first-in-None}

-- what was left is the span's first counter and the others
one_step : (c : After-self-1) → left_of c.args.self.now ≡ c.match-self.span.first ∷ counters_left c.rest-self.result c.match-self.self.spans.now
one_step c =
    let span = c.match-self.span in
    let spans = c.match-self.self.spans.now in
    let begun : left_of c.args.self.now ≡ counters_along (span ∷ spans) = elim c.match-self.branch [
      | in-Some w ↦
          ap (λ s. counters_left s c.args.self.now.spans.now) w.in-Some.is
          ∙ (λ i. counters_along (sym w.span-is i ∷ ap (λ (walk : FurtherIter). walk.spans.now) (sym w.self-is) i))
      | in-None+in_ok-first-in-None w ↦
          ap (λ s. counters_left s c.args.self.now.spans.now) w.in-None.is
          ∙ ap counters_along w.in_ok-first-in-None.ensures.cases.0
          ∙ (λ i. counters_along (sym w.span-is i ∷ ap (λ (walk : FurtherIter). walk.spans.now) (sym w.self-is) i))
    ] in
    begun ∙ after_first span spans ∙ ap (λ s. span.first ∷ counters_left s spans) (sym c.rest-self.ensures)

pub returns-clause-steps : goal.returns-clause-steps
returns-clause-steps c = one_step c

pub returns-clause-goes : goal.returns-clause-goes
returns-clause-goes c = record { on = λ _. (tt, tt, omega (arith, ap length (one_step c))); keeps = tt; rests = λ _. tt }
