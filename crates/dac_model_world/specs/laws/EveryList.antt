-- The model's run of a list is a run, and has the properties of every run.
use Rattle.std.proofs.Common.{◌≡◌, ℕ, ◌<◌, ◌≤◌, true, false, cond, List, [], ◌∷◌, map, Some, None, inl, refl, sym, ap, subst, ◌∙◌, arith, ltb-true, ltb-false}
use Rattle.dac_model_world.specs.laws.Common.{nat_lt, slice_get, Table, WorldEvent, shown, ModelWorld, Run, RanAs, happens, start, numbered, Converges}
use Rattle.std.specs.List.{range_with_len}
use Rattle.std.proofs.lemmas.Option.{slice_get-get_or, slice_get_past}
use Rattle.std.proofs.lemmas.List.FromFn.{length-map-range_with_len, get_or-map-range_with_len}
use Rattle.dac_model_world.specs.EveryList.{answers_of, run_from, model_run, shown_world, IsEnough, OfEachList, RunsEachList, IsShownWorld}
use Rattle.dac_model_world.specs.laws.Memory.{enough_memory}
use Rattle.dac_model_world.specs.laws.Runs.{run_from_first}
use Rattle.dac_model_world.specs.laws.Headline.{converged}

-- ---- the model's run
pub own_run : (t : Table) (w : ModelWorld) (es : List WorldEvent) → Run t w es (answers_of t w es) (run_from t w es)
own_run t w [] = (tt, refl)
own_run t w (e ∷ es) =
    let by = happens t w e in
    run_from_first t w e es by.answer (answers_of t by.world es) by.world (run_from t by.world es) (inl (record { answered = refl; went_on = refl })) (own_run t by.world es)

pub is_enough : (t : Table) (w : ModelWorld) (es : List WorldEvent) → IsEnough (answers_of t w es)
is_enough t w [] = tt
is_enough t w (e ∷ es) = (enough_memory t w e, is_enough t (happens t w e).world es)

pub runs_each_list : RunsEachList
runs_each_list t events = own_run t (start t) events

-- the item at each place of a list made by places
made_at : {X : Type 0} (f : ℕ → X) (count n : ℕ) → slice_get (map f (range_with_len 0 count)) n ≡ cond (nat_lt n count) (Some (f n)) None
made_at f count n =
    let xs = map f (range_with_len 0 count) in
    let long = length-map-range_with_len f 0 count in
    elim (nat_lt n count) as (λ b. nat_lt n count ≡ b → slice_get xs n ≡ cond b (Some (f n)) None) [
      | true ↦ λ inside.
          let lt = ltb-true n count inside in
          slice_get-get_or xs n (f n) (subst (λ k. n < k) (sym long) lt) ∙ ap (λ x. Some x) (get_or-map-range_with_len f 0 count n n (f n) lt (omega arith))
      | false ↦ λ outside. slice_get_past xs n (subst (λ k. k ≤ n) (sym long) (ltb-false n count outside))
    ] refl

pub is_shown_world : IsShownWorld
is_shown_world t w = record {
  count = length-map-range_with_len (λ n. shown t (w.node (numbered n))) 0 w.count;
  nodes = made_at (λ n. shown t (w.node (numbered n))) w.count;
  operations = refl;
  messages = refl;
}

pub own_ran : OfEachList RanAs
own_ran t events = record { final = model_run t events; run = runs_each_list t events; shows = is_shown_world t (model_run t events) }

pub each_list_converges : OfEachList Converges
each_list_converges t events = converged t events (answers_of t (start t) events) (shown_world t (model_run t events)) (own_ran t events)
