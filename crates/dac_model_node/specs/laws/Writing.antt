-- The operations and replies of an accepted event.
use Rattle.std.proofs.Common.{◌≡◌, ◌⊎◌, ◌↔◌, ◌≤◌, ◌+◌, ℕ, ◌-◌, Bool, true, false, not, cond, List, [], ◌∷◌, Option, Some, None, refl, sym, subst, ◌∙◌, inl, inr, true≢false}
use Rattle.dac_model_node.specs.laws.Common.{MAX_COUNTER, NodeId, Table, app_count, apps_of, meaning_of, StateValue, IsBelow, is_below, is_below-is, Opening, Shut, Opened, GiveUp, Noted, Note, waits_of, opening_of, content_of, Event, Boot, Crash, Tick, Ship, Hear, HearOp, Off, AlreadyOn, greatest_counter, sweep_of, RunningValue, refusal_by, message_of, opening_at, ticks_by, IsNotingBy, reply_by}
use Rattle.dac_decide.specs.StartGate.{IsOpening}
use Rattle.dac_decide.specs.laws.AllUp.{opening_is}
use Rattle.dac_messages.specs.declared.event.Event.TheVariants.{Command as Commanded}
use Rattle.dac_commands.specs.laws.Written.{writes_what_is_said}
use Rattle.dac_ticks.specs.InWords.{IsSweep}
use Rattle.dac_ticks.specs.laws.Words.{sweep_in_words}
use Rattle.dac_model_node.specs.Writing.{IsAsked, TicksSo, Writes}
use Rattle.dac_model_node.specs.laws.Counters.{leaves_room}
use Rattle.dac_model_node.specs.laws.Numbers.{obeyed}

-- ---- ticks

module _ (t : Table) (r : RunningValue) (now : ℕ) where
  abbrev elapsed : ℕ
  elapsed = now - r.moments.booted

  -- the start gate was open, or this is its state now
  abbrev pub IsStartGate : Opening → Type 0
  IsStartGate Opened = (r.is_open ≡ true) ⊎ IsAsked t r now Opened
  IsStartGate Shut = IsAsked t r now Shut
  IsStartGate GiveUp = IsAsked t r now GiveUp

  asked : (opening : Opening) → r.is_open ≡ false → opening_of t r.state elapsed ≡ opening → IsAsked t r now opening
  asked opening was is = (was, subst (IsOpening t r.state elapsed) is (opening_is t r.state elapsed))

  pub start_gate : (b : Bool) (opening : Opening) → r.is_open ≡ b → cond b Opened (opening_of t r.state elapsed) ≡ opening → IsStartGate opening
  start_gate true Opened was is = inl was
  start_gate true Shut was is = cc
  start_gate true GiveUp was is = cc
  start_gate false Opened was is = inr (asked Opened was is)
  start_gate false Shut was is = asked Shut was is
  start_gate false GiveUp was is = asked GiveUp was is

  -- the waits with this tick's note
  abbrev pub NotesSo : List (Option Noted) → Type 0
  NotesSo noted = (notes : List Note) → r.waits ≡ waits_of t notes → noted ≡ waits_of t (record { state = r.state; moment = now } ∷ notes)

  claims_so : (noted : List (Option Noted)) → NotesSo noted → greatest_counter r.origin r.state.known + app_count t ≤ MAX_COUNTER → (notes : List Note) → r.waits ≡ waits_of t notes →
      IsSweep t r.origin (record { state = r.state; moment = now } ∷ notes) now r.state (apps_of t) (sweep_of t r.origin noted now r.state).ops (sweep_of t r.origin noted now r.state).passed
  claims_so noted so room notes are =
      let all = record { state = r.state; moment = now } ∷ notes in
      subst (λ w. IsSweep t r.origin all now r.state (apps_of t) (sweep_of t r.origin w now r.state).ops (sweep_of t r.origin w now r.state).passed) (sym (so notes are)) (sweep_in_words t r.origin all now r.state room)

  ticks_so : (opening : Opening) (noted : List (Option Noted)) → opening_at t r now ≡ opening → greatest_counter r.origin r.state.known + app_count t ≤ MAX_COUNTER → ((ticks_by opening t r noted now).notes ≡ true → NotesSo noted) → TicksSo t r now (ticks_by opening t r noted now).reply
  ticks_so Shut noted is room so = start_gate r.is_open Shut refl is
  ticks_so GiveUp noted is room so = start_gate r.is_open GiveUp refl is
  ticks_so Opened noted is room so = (start_gate r.is_open Opened refl is, claims_so noted (so refl) room)

-- ---- incoming states

is_new : (s body : StateValue) → (not (is_below body s) ≡ true) ↔ (¬ IsBelow body s)
is_new s body = by (is_below body s) refl
  where
    by : (b : Bool) → is_below body s ≡ b → (not b ≡ true) ↔ (¬ IsBelow body s)
    by true e = (λ no. absurd (true≢false (sym no)), λ new. absurd (new ((is_below-is body s).1 e)))
    by false e = (λ _ below. true≢false (sym ((is_below-is body s).0 below) ∙ e), λ _. refl)

-- ---- all events

pub no_off : {P : Type 0} → Some Off ≡ None → P
no_off e = cc

pub no_on : {P : Type 0} → Some AlreadyOn ≡ None → P
no_on e = cc

pub writes : (t : Table) (me : NodeId) (last : ℕ) (running : Option RunningValue) (noted : List (Option Noted)) (e : Event) → refusal_by t last running e ≡ None → IsNotingBy t running noted e →
    Writes t me (record { last = last; running = running }) e (reply_by t me last running noted e)
writes t me last None noted (Boot now) none noting = (refl, refl)
writes t me last None noted (Commanded c) none noting = no_off none
writes t me last None noted (Tick now) none noting = no_off none
writes t me last None noted Crash none noting = no_off none
writes t me last None noted (Ship to) none noting = no_off none
writes t me last None noted (Hear m) none noting = no_off none
writes t me last None noted (HearOp o) none noting = no_off none
writes t me last (Some r) noted (Boot now) none noting = no_on none
writes t me last (Some r) noted (Commanded c) none noting = writes_what_is_said t r.origin r.state c (obeyed t r c none).0
writes t me last (Some r) noted (Tick now) none noting = ticks_so t r now (opening_at t r now) noted refl (leaves_room t r now none) noting
writes t me last (Some r) noted Crash none noting = refl
writes t me last (Some r) noted (Ship to) none noting = (message_of r to, refl)
writes t me last (Some r) noted (Hear m) none noting = is_new r.state (content_of m.body)
writes t me last (Some r) noted (HearOp o) none noting = is_new r.state (meaning_of (o ∷ []))
