-- A tick that is held back notes nothing, and its moment counts.
use Rattle.std.proofs.Common.{◌≡◌, ℕ, ◌<◌, Bool, false, ◌||◌, List, [], ◌∷◌, ◌++◌, length, Option, Some, None, option_map, Result, Ok, Err, refl, ap, ◌∙◌, append-nil}
use Rattle.dac_model_node.specs.laws.Common.{lt-ltb, NodeId, Table, waits_of, Opening, Shut, Opened, GiveUp, Noted, Tick, Reply, Held, Refusal, DeclaredDown, MomentBack, DotsUsedUp, declared_down, none_is, ModelNode, ModelRunning, base_after, joined, running_shown, causes_to_tick, refusal_to_tick, needed, too_few_left, too_many_deltas, opening_at, note_of, ticks_by, goes_on, model_step, step_by}
use Rattle.dac_commands.specs.Causes.{first as first_cause}
use Rattle.dac_model_node.specs.HeldBack.{WaitsAsBefore, HeldTicksNoteNothing, HeldTicksCount}

module _ (t : Table) (me : NodeId) (last now : ℕ) where
  abbrev off_or : Option ModelRunning → ModelNode
  off_or running = record { last = last; running = running }

  module _ (r : ModelRunning) where
    abbrev noted : List (Option Noted)
    noted = waits_of t (note_of (joined r.log) (Tick now) ∷ r.notes)

    -- the running node after the tick
    abbrev later : ModelRunning
    later = record { origin = r.origin; moments = record { booted = r.moments.booted; last = now }; is_open = false; notes = r.notes; log = r.log ++ []; base = base_after r.base (length (r.log ++ [])) 0; peers = r.peers }

    -- by the state of the start gate
    notes_by : (o : Opening) → ◌≡◌ {A = Result Reply Refusal} (Ok (ticks_by o t (running_shown t r) noted now).reply) (Ok Held)
        → WaitsAsBefore now (Some (running_shown t r)) (option_map (running_shown t) (goes_on r (note_of (joined r.log) (Tick now)) (ticks_by o t (running_shown t r) noted now)))
    notes_by Shut answer = record { before = running_shown t r; after = running_shown t later; ran = refl; runs = refl; waits = refl; last = refl }
    notes_by GiveUp answer = cc
    notes_by Opened answer = cc

    module _ (back : ℕ) (less : back < now) (up : declared_down r.origin (joined r.log) ≡ false) where
      still : declared_down r.origin (joined (r.log ++ [])) ≡ false
      still = ap (λ log. declared_down r.origin (joined log)) (append-nil r.log) ∙ up

      abbrev few : Bool
      few = too_few_left t (joined later.log) r.origin || too_many_deltas (running_shown t later) (needed t)

      refused : refusal_to_tick t (running_shown t later) back ≡ Some MomentBack
      refused = λ i. first_cause ((still i, DeclaredDown) ∷ (lt-ltb back now less i, MomentBack) ∷ (few, DotsUsedUp) ∷ [])

      counts_by : (o : Opening) → ◌≡◌ {A = Result Reply Refusal} (Ok (ticks_by o t (running_shown t r) noted now).reply) (Ok Held)
          → (model_step t me (off_or (goes_on r (note_of (joined r.log) (Tick now)) (ticks_by o t (running_shown t r) noted now))) (Tick back)).answer ≡ Err MomentBack
      counts_by Shut answer = ap (λ x. (step_by x t me (off_or (Some later)) (Tick back)).answer) refused
      counts_by GiveUp answer = cc
      counts_by Opened answer = cc

  -- by the refusal of the tick, if any
  notes_if : (x : Option Refusal) (r : ModelRunning) → (step_by x t me (off_or (Some r)) (Tick now)).answer ≡ Ok Held
      → WaitsAsBefore now (Some (running_shown t r)) (option_map (running_shown t) (step_by x t me (off_or (Some r)) (Tick now)).node.running)
  notes_if (Some why) r answer = cc
  notes_if None r answer = notes_by r (opening_at t (running_shown t r) now) answer

  counts_if : (x : Option Refusal) (r : ModelRunning) (back : ℕ) → refusal_to_tick t (running_shown t r) now ≡ x → (step_by x t me (off_or (Some r)) (Tick now)).answer ≡ Ok Held → back < now
      → (model_step t me (step_by x t me (off_or (Some r)) (Tick now)).node (Tick back)).answer ≡ Err MomentBack
  counts_if (Some why) r back e answer less = cc
  counts_if None r back e answer less = counts_by r back less (none_is (causes_to_tick t (running_shown t r) now) e).0 (opening_at t (running_shown t r) now) answer

  notes : (running : Option ModelRunning) → (model_step t me (off_or running) (Tick now)).answer ≡ Ok Held
      → WaitsAsBefore now (option_map (running_shown t) running) (option_map (running_shown t) (model_step t me (off_or running) (Tick now)).node.running)
  notes None answer = cc
  notes (Some r) answer = notes_if (refusal_to_tick t (running_shown t r) now) r answer

  counts : (running : Option ModelRunning) (back : ℕ) → (model_step t me (off_or running) (Tick now)).answer ≡ Ok Held → back < now
      → (model_step t me (model_step t me (off_or running) (Tick now)).node (Tick back)).answer ≡ Err MomentBack
  counts None back answer less = cc
  counts (Some r) back answer less = counts_if (refusal_to_tick t (running_shown t r) now) r back refl answer less

pub held_ticks_note_nothing : HeldTicksNoteNothing
held_ticks_note_nothing t me d now answer = notes t me d.last now d.running answer

pub held_ticks_count : HeldTicksCount
held_ticks_count t me d now back answer less = counts t me d.last now d.running back answer less
