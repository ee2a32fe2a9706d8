-- There are numbers for the deltas that an accepted event adds.
use Rattle.std.proofs.Common.{◌≡◌, ◌≤◌, ℕ, ◌+◌, Bool, true, false, not, ◌&&◌, List, [], ◌∷◌, length, Option, Some, None, refl, arith}
use Rattle.dac_model_node.specs.laws.Common.{max, ltb-false, MAX_COUNTER, Origin, Operation, StateValue, meaning_of, is_below, Table, app_count, Opening, Shut, Opened, GiveUp, Noted, Sweep, sweep_of, claim_of, numbered, swept_by, sweep_reaches, Command, Message, content_of, Event, Boot, Crash, Tick, Ship, Hear, HearOp, Refusal, DotsUsedUp, first, refusal_of_command, none_is, RunningValue, needed, otherwise, overflows, refusal_on, too_many_deltas, brings, transition_of, meanings, opening_at, ticks_by}
use Rattle.std.specs.Prelude.{cond}
use Rattle.std.proofs.lemmas.List.{length-append, length-map}
use Rattle.dac_messages.specs.declared.event.Event.TheVariants.{Command as Commanded}
use Rattle.dac_model_node.specs.EventRefusals.{causes_to_hear, refusal_to_hear, refusal_to_obey}
use Rattle.dac_model_node.specs.laws.Counters.{leaves_numbers}

-- neither of two causes holds
either_none : (x y : Option Refusal) → otherwise x y ≡ None → (x ≡ None) × (y ≡ None)
either_none None y e = (refl, e)
either_none (Some why) y e = cc

pub obeyed : (t : Table) (r : RunningValue) (c : Command) → refusal_to_obey t r c ≡ None → (refusal_of_command t r.origin r.state c ≡ None) × (too_many_deltas r 1 ≡ false)
obeyed t r c none =
    let both = either_none (refusal_of_command t r.origin r.state c) (first ((too_many_deltas r 1, DotsUsedUp) ∷ [])) none in
    (both.0, (none_is ((too_many_deltas r 1, DotsUsedUp) ∷ []) both.1).0)

-- a sweep claims each application at most once
pub few_claims : (t : Table) (own : Origin) (waits : List (Option Noted)) (now : ℕ) (s : StateValue) → length (sweep_of t own waits now s).ops ≤ app_count t
few_claims t own waits now s = sweep_reaches t own waits now (λ n sweep. length sweep.ops ≤ n) s (omega arith) (λ n sweep lt h.
    swept_by t own waits now (λ (after : Sweep). length after.ops ≤ n + 1) sweep (numbered n) (λ none. omega arith) (λ mine used. omega arith)
    (λ mine left. let one = length-append sweep.ops (claim_of t own sweep.state (numbered n) ∷ []) in omega arith))

module _ (r : RunningValue) where
  room_if : (more : ℕ) → too_many_deltas r more ≡ false → r.kept.count + more ≤ MAX_COUNTER
  room_if more h = ltb-false MAX_COUNTER (r.kept.count + more) h

  -- an incoming state that doesn't overflow
  pub room_to_hear : (body : StateValue) → r.kept.count ≤ MAX_COUNTER → overflows r body ≡ false → r.kept.count + length (brings r.state body) ≤ MAX_COUNTER
  room_to_hear body countable h = by (is_below body r.state) h
    where
      by : (b : Bool) → (not b && too_many_deltas r 1) ≡ false → r.kept.count + length (cond b [] (body ∷ [])) ≤ MAX_COUNTER
      by true e = omega arith
      by false e = room_if 1 e

module _ (t : Table) (r : RunningValue) (noted : List (Option Noted)) (countable : r.kept.count ≤ MAX_COUNTER) where
  nothing_more : r.kept.count + 0 ≤ MAX_COUNTER
  nothing_more = omega arith

  room_to_tick : (opening : Opening) (now : ℕ) → r.kept.count + needed t ≤ MAX_COUNTER → r.kept.count + length (ticks_by opening t r noted now).adds ≤ MAX_COUNTER
  room_to_tick Shut now h = nothing_more
  room_to_tick GiveUp now h = nothing_more
  room_to_tick Opened now h =
      let ops = (sweep_of t r.origin noted now r.state).ops in
      fewer (length (meanings ops)) (length ops) (app_count t) (length-map ops (λ (o : Operation). meaning_of (o ∷ []))) (few_claims t r.origin noted now r.state) h
    where
      fewer : (n k apps : ℕ) → n ≡ k → k ≤ apps → r.kept.count + max 1 apps ≤ MAX_COUNTER → r.kept.count + n ≤ MAX_COUNTER
      fewer n k apps same le room = omega arith

  not_heard : (m : Message) → refusal_to_hear r m ≡ None → overflows r (content_of m.body) ≡ false
  not_heard m none = (none_is (causes_to_hear r m) none).1.1.0

  -- there are numbers for the deltas that an accepted event adds
  pub fits : (e : Event) → refusal_on t r e ≡ None → r.kept.count + length (transition_of t r noted e).adds ≤ MAX_COUNTER
  fits (Boot now) none = nothing_more
  fits Crash none = nothing_more
  fits (Commanded c) none = room_if r 1 (obeyed t r c none).1
  fits (Tick now) none = room_to_tick (opening_at t r now) now (leaves_numbers t r now none)
  fits (Ship to) none = nothing_more
  fits (Hear m) none = room_to_hear r (content_of m.body) countable (not_heard m none)
  fits (HearOp o) none = room_to_hear r (meaning_of (o ∷ [])) countable (none_is ((overflows r (meaning_of (o ∷ [])), DotsUsedUp) ∷ []) none).0
