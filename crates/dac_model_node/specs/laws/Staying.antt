-- Results that leave the state and the incarnation of a node unchanged.
use Rattle.std.proofs.Common.{◌≡◌, ℕ, Bool, true, false, not, cond, ◌==◌, List, [], ◌∷◌, ◌++◌, length, Option, Some, None, refl, ap, ◌∙◌, append-nil, arith}
use Rattle.dac_model_node.specs.laws.Common.{false≢true, eqb-true, NodeId, Operation, StateValue, meaning_of, is_below, Table, Opening, Shut, Opened, GiveUp, Noted, waits_of, sweep_of, content_of, Event, Boot, Crash, Tick, Ship, Hear, HearOp, Refusal, NodeValue, RunningValue, state_of, ModelNode, ModelRunning, base_after, joined, running_shown, shown, refusal_by, refusal_of, refusal_on, Transition, transition_of, meanings, note_of, opening_at, ticks_by, accepted, transition_on, model_step, step_by}
use Rattle.std.specs.Option.{option_map}
use Rattle.dac_messages.specs.declared.event.Event.TheVariants.{Command as Commanded}
use Rattle.dac_model_node.specs.NodeValue.{origin_of}
use Rattle.dac_model_node.specs.Keeping.{leaves_state, says_it_stays}
use Rattle.dac_model_node.specs.laws.Writing.{no_on}

-- ---- the states that a transition adds

-- an incoming state that isn't new isn't added
adds_no_more : (below : Bool) (body : StateValue) → not (not below) ≡ true → cond below [] (body ∷ []) ≡ []
adds_no_more true body says = refl
adds_no_more false body says = absurd (false≢true says)

-- no operations have no meanings
no_meanings : (os : List Operation) → (length os == 0) ≡ true → meanings os ≡ []
no_meanings [] says = refl
no_meanings (o ∷ os) says = absurd (omega (arith, eqb-true (length (o ∷ os)) 0 says))

-- the node doesn't go off, and adds nothing
abbrev AddsNothing : Transition → Type 0
AddsNothing transition = (transition.goes_off ≡ false) × (transition.adds ≡ [])

module _ (t : Table) (r : RunningValue) (noted : List (Option Noted)) where
  tick_adds_nothing : (opening : Opening) (now : ℕ) → says_it_stays (ticks_by opening t r noted now).reply ≡ true → AddsNothing (ticks_by opening t r noted now)
  tick_adds_nothing Shut now says = (refl, refl)
  tick_adds_nothing GiveUp now says = absurd (false≢true says)
  tick_adds_nothing Opened now says = (refl, no_meanings (sweep_of t r.origin noted now r.state).ops says)

  adds_nothing : (e : Event) → refusal_on t r e ≡ None → says_it_stays (transition_of t r noted e).reply ≡ true → AddsNothing (transition_of t r noted e)
  adds_nothing (Boot now) none says = no_on none
  adds_nothing Crash none says = absurd (false≢true says)
  adds_nothing (Commanded c) none says = absurd (false≢true says)
  adds_nothing (Tick now) none says = tick_adds_nothing (opening_at t r now) now says
  adds_nothing (Ship to) none says = (refl, refl)
  adds_nothing (Hear m) none says = (refl, adds_no_more (is_below (content_of m.body) r.state) (content_of m.body) says)
  adds_nothing (HearOp o) none says = (refl, adds_no_more (is_below (meaning_of (o ∷ [])) r.state) (meaning_of (o ∷ [])) says)

-- ---- the value shown afterwards

-- both values show the same incarnation and state
abbrev AreShownAlike : NodeValue → NodeValue → Type 0
AreShownAlike old new = (origin_of new ≡ origin_of old) × (state_of new ≡ state_of old)

-- the running node after a transition that adds nothing
module _ (t : Table) (last : ℕ) (r : ModelRunning) (e : Event) where
  abbrev after : Bool → List StateValue → NodeValue
  after off adds =
      let transition = transition_on t r e in
      shown t (record {
        last = last;
        running = cond off None (Some (record {
          origin = r.origin;
          moments = record { booted = r.moments.booted; last = transition.last };
          is_open = transition.is_open;
          notes = cond transition.notes (note_of (joined r.log) e ∷ r.notes) r.notes;
          log = r.log ++ adds;
          base = base_after r.base (length (r.log ++ transition.adds)) transition.trim;
          peers = transition.peers;
        }));
      })

  runs_alike : AddsNothing (transition_on t r e) → AreShownAlike (shown t (record { last = last; running = Some r })) (after (transition_on t r e).goes_off (transition_on t r e).adds)
  runs_alike stays = (
    ap (λ off. origin_of (after off (transition_on t r e).adds)) stays.0,
    ap (λ (off : Bool). state_of (after off (transition_on t r e).adds)) stays.0 ∙ (ap (λ adds. state_of (after false adds)) stays.1 ∙ ap (λ log. Some (joined log)) (append-nil r.log)),
  )

module _ (t : Table) (me : NodeId) (e : Event) where
  accepted_alike : (last : ℕ) (running : Option ModelRunning) → refusal_by t last (option_map (running_shown t) running) e ≡ None → leaves_state (accepted t me last running e).answer ≡ true
      → AreShownAlike (shown t (record { last = last; running = running })) (shown t (accepted t me last running e).node)
  accepted_alike last None none says = absurd (false≢true says)
  accepted_alike last (Some r) none says = runs_alike t last r e (adds_nothing t (running_shown t r) (waits_of t (note_of (joined r.log) e ∷ r.notes)) e none says)

  step_alike : (d : ModelNode) (why : Option Refusal) → refusal_of t (shown t d) e ≡ why → leaves_state (step_by why t me d e).answer ≡ true → AreShownAlike (shown t d) (shown t (step_by why t me d e).node)
  step_alike d (Some why) is says = (refl, refl)
  step_alike d None is says = accepted_alike d.last d.running is says

-- such a result leaves the shown incarnation and state of a model node unchanged
pub state_stays : (t : Table) (me : NodeId) (d : ModelNode) (e : Event) → leaves_state (model_step t me d e).answer ≡ true
    → (origin_of (shown t (model_step t me d e).node) ≡ origin_of (shown t d)) × (state_of (shown t (model_step t me d e).node) ≡ state_of (shown t d))
state_stays t me d e says = step_alike t me e d (refusal_of t (shown t d) e) refl says
