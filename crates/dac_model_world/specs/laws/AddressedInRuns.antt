-- Ships send messages to the nodes that they name.
use Rattle.std.proofs.Common.{◌≡◌, ℕ, true, false, inl, inr, cond, List, [], ◌∷◌, Option, Some, None, Result, Ok, Err, refl, sym, ap, subst, ◌∙◌}
use Rattle.dac_model_world.specs.laws.Common.{nat_lt, option_map, NodeId, Origin, Operation, Table, Opening, Shut, Noted, waits_of, WorldEvent, What, Deliver, Hand, Message, Event, Tick, Ship, Off, WorldFault, NoSuchNode, RunningValue, ModelRunning, joined, shown, running_shown, refusal_of, refusal_by, ticks_by, opening_at, note_of, step_by, accepted, ModelWorld, happens, happens_by, answered_by, event_of, Step, Run, SetWorld, set_step}
use Rattle.dac_events.specs.declared.What.TheVariants.{Ship as Ships}
use Rattle.dac_model_world.specs.ModelWorld.{counted}
use Rattle.dac_model_world.specs.Addressed.{IsAddressed, AreAddressed}
use Rattle.dac_model_world.specs.laws.Runs.{run_first}
use Rattle.dac_model_world.specs.laws.Sound.{Answer, Sound, held_at, no_message, no_operation, sound_step}

-- ---- telling events apart
-- an event of a node that isn't a ship comes of no ship of the world
other_event : {P : Type 0} (os : List Operation) (ms : List Message) (e : WorldEvent) (at : Event) (to : NodeId) → event_of os ms e.what ≡ Ok at → e.what ≡ Ships to → (at ≡ Ship to → P) → P
other_event os ms e at to is ships other = other (same at (sym is ∙ ap (event_of os ms) ships))
  where
    same : (at : Event) → ◌≡◌ {A = Result Event WorldFault} (Ok at) (Ok (Ship to)) → at ≡ Ship to
    same at p = cc

-- a ship of the node comes of a ship of the world
ships_to : (os : List Operation) (ms : List Message) (what : What) (to : NodeId) → event_of os ms what ≡ Ok (Ship to) → what ≡ Ships to
ships_to os ms (Deliver k) to e = no_message (counted ms k) (Ship to) (λ l p. cc) e
ships_to os ms (Hand k) to e = no_operation (counted os k) (Ship to) (λ x p. cc) e
ships_to os ms _ to e = cc

-- ---- one event of the world
tick_ships_none : (t : Table) (e : WorldEvent) (r : RunningValue) (noted : List (Option Noted)) (now : ℕ) (opening : Opening) → ((to : NodeId) → e.what ≡ Ships to → ⊥) → IsAddressed e (Ok (ticks_by opening t r noted now).reply)
tick_ships_none t e r noted now Shut none = none
tick_ships_none t e r noted now _ none = none

module _ (t : Table) (w : ModelWorld) (s : SetWorld) (h : Sound w s) (e : WorldEvent) where
  abbrev refused_by : Option ModelRunning → Event → Type 0
  refused_by running at = refusal_by t (w.node e.node).last (option_map (running_shown t) running) at ≡ None

  off_ships_none : (to : NodeId) → refused_by None (Ship to) → ⊥
  off_ships_none to p = no p
    where
      no : Some Off ≡ None → ⊥
      no q = cc

  addressed_ok : (at : Event) (running : Option ModelRunning) → event_of w.operations w.messages e.what ≡ Ok at → refused_by running at → (w.node e.node).running ≡ running →
      let step = accepted t e.node (w.node e.node).last running at in
      IsAddressed e (answered_by w e.node step.node step.answer).answer
  addressed_ok at None is none on = λ to ships. other_event w.operations w.messages e at to is ships (λ same. off_ships_none to (subst (refused_by None) same none))
  addressed_ok (Ship to) (Some r) is none on = (ships_to w.operations w.messages e.what to is, ap (λ (q : Origin). q.node) (held_at w s e.node r h on).mine)
  addressed_ok (Tick now) (Some r) is none on =
      tick_ships_none t e (running_shown t r) (waits_of t (note_of (joined r.log) (Tick now) ∷ r.notes)) now (opening_at t (running_shown t r) now) (λ to ships. other_event w.operations w.messages e (Tick now) to is ships (λ same. cc))
  addressed_ok at (Some r) is none on = λ to ships. other_event w.operations w.messages e at to is ships (λ same. cc)

  addressed_by : IsAddressed e (happens_by t w e.node (event_of w.operations w.messages e.what)).answer
  addressed_by =
      let n = e.node in
      elim (event_of w.operations w.messages e.what) as (λ r. event_of w.operations w.messages e.what ≡ r → IsAddressed e (happens_by t w n r).answer) [
        | Err fault ↦ λ _. tt
        | Ok at ↦ λ is. elim (refusal_of t (shown t (w.node n)) at) as (λ r. refusal_of t (shown t (w.node n)) at ≡ r → IsAddressed e (answered_by w n (step_by r t n (w.node n) at).node (step_by r t n (w.node n) at).answer).answer) [
          | Some why ↦ λ _. tt
          | None ↦ λ none. addressed_ok at (w.node n).running is none refl
        ] refl
      ] refl

  addressed_happens : IsAddressed e (happens t w e).answer
  addressed_happens =
      elim (nat_lt e.node.0 w.count) as (λ b. IsAddressed e (cond b (happens_by t w e.node (event_of w.operations w.messages e.what)) (record { world = w; answer = Err NoSuchNode })).answer) [
        | true ↦ addressed_by
        | false ↦ tt
      ]

addressed_step : (t : Table) (w : ModelWorld) (s : SetWorld) (e : WorldEvent) (a : Answer) (next : ModelWorld) → Sound w s → Step w (happens t w e) a next → IsAddressed e a
addressed_step t w s e a next h (inl d) = subst (IsAddressed e) (sym d.answered) (addressed_happens t w s h e)
addressed_step t w s e a next h (inr l) = subst (IsAddressed e) (sym l.answered) tt

-- messages go to the nodes that ships name in every run of the model world
pub addressed_run : (t : Table) (w : ModelWorld) (s : SetWorld) (es : List WorldEvent) (answers : List Answer) (final : ModelWorld) → Sound w s → Run t w es answers final → AreAddressed es answers
addressed_run t w s [] answers final h r = tt
addressed_run t w s (e ∷ es) [] final h r = tt
addressed_run t w s (e ∷ es) (a ∷ answers) final h run =
    let r = run_first t w e es a answers final run in
    (addressed_step t w s e a r.0 h r.1.0, addressed_run t r.0 (set_step s e.node e.what a) es answers final (sound_step t w s e a r.0 h r.1.0) r.1.1)
