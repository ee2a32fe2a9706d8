-- Whatever runs hold and ship is the meaning of issued operations.
use Rattle.std.specs.Prelude.{◌≡◌, Bool, true, false, cond, List, [], ◌∷◌, filter}
use Rattle.std.proofs.Common.{sym, subst, inl, inr}
use Rattle.dac_in_form.proofs.Common.{Operation, StateValue, IsOperationOf, DotsDetermine, meaning_of, Table, Two, IsInForm, Body, Whole, Interval, Nothing, InEachRun, Agree-within, DistinctDots-agree, StateFits, IsSmall, AreInForm, BodyFits, HeldAreInForm}
use Rattle.std.specs.FinSet as set
use Rattle.dac_meaning.specs.Meaning.{AreOperationsOf}
use Rattle.dac_messages.specs.Bodies.{content_of}
use Rattle.dac_wire.specs.Form.{IsBodyInForm}
use Rattle.dac_model_world.specs.Convergence.{heard_among}
use Rattle.dac_model_world.specs.Converges.{Converges}
use Rattle.dac_in_form.specs.InForm.{MeaningsAreInForm}

-- operations that pass a test are among the operations
passed_is : (b : Bool) (o x : Operation) (os ps : List Operation) → (IsOperationOf o ps → IsOperationOf o os) → IsOperationOf o (cond b (x ∷ ps) ps) → IsOperationOf o (x ∷ os)
passed_is true o x os ps rest (inl e) = inl e
passed_is true o x os ps rest (inr h) = inr (rest h)
passed_is false o x os ps rest h = inr (rest h)

of_filter : (p : Operation → Bool) (os : List Operation) → AreOperationsOf (filter p os) os
of_filter p [] o i = i
of_filter p (x ∷ os) o i = passed_is (p x) o x os (filter p os) (of_filter p os o) i

module _ (means : MeaningsAreInForm) (t : Table) (small : IsSmall t) (os all : List Operation) (inside : AreOperationsOf os all) (agree : DotsDetermine all) (form : AreInForm t all) where
  state_in_form : (s : StateValue) → s ≡ meaning_of os → StateFits s → IsInForm Two t s
  state_in_form s is fits = subst (IsInForm Two t) (sym is) (means t os small (Agree-within os all inside agree) (λ o i. form o (inside o i)) (subst StateFits is fits))

  body_in_form : (b : Body) → content_of b ≡ meaning_of os → BodyFits b → IsBodyInForm Two t b
  body_in_form (Whole s) is fits = state_in_form s is fits
  body_in_form (Interval s) is fits = state_in_form s is fits
  body_in_form Nothing is fits = tt

pub held_are_in_form : MeaningsAreInForm → InEachRun Converges → InEachRun HeldAreInForm
held_are_in_form means converge t events answers v ran =
    let c = converge t events answers v ran in
    let agree = DistinctDots-agree v.operations c.distinct in
    record {
      states = λ small form n s runs fits. state_in_form means t small (heard_among s.heard v.operations) v.operations (of_filter (λ (o : Operation). set.contains s.heard o.dot) v.operations) agree form s (c.headline.each n s runs) fits;
      bodies = λ small form k m there fits. let os = c.bodies.each k m there in body_in_form means t small os.0 v.operations os.1.0 agree form m.body os.1.1 fits;
    }
