-- The model node, and the program's node as which it shows.
use Rattle.std.proofs.Common.{◌≡◌, ℕ, ◌-◌, Bool, true, false, cond, List, ◌∷◌, ◌++◌, length, Option, Some, None, Ok, Err, refl, sym, ap, subst, ◌∙◌, arith, true≢false}
use Rattle.dac_model_node.specs.laws.Common.{fold, max, unwrap_or, IfSome, NodeId, Table, StateValue, bottom, join, pushed, trimmed, PeersValue, Opening, Shut, Opened, GiveUp, Noted, Note, waits_of, Event, Boot, Crash, Tick, Ship, Reply, Refusal, NoMemory, NodeValue, RunningValue, ModelNode, ModelRunning, base_after, shown, running_shown, joined, refusal_of, Transition, transition_of, ticks_by, opening_at, note_of, model_step, step_by, accepted, transition_on, goes_on, AcceptedAs, AreNewest, IsNotingBy, running_by, left_by, reply_by, MAX_DELTAS}
use Rattle.std.specs.Option.{option_map}
use Rattle.std.proofs.lemmas.List.{length-drop}
use Rattle.std.proofs.lemmas.List.Sums.{fold-append}
use Rattle.dac_deltas.specs.Logs.{kept_of}
use Rattle.dac_deltas.specs.laws.Logs.{pushes_append_all, trims_move_the_base}
use Rattle.dac_messages.specs.declared.event.Event.TheVariants.{Command as Commanded}
use Rattle.dac_model_node.specs.NodeValue.{off}
use Rattle.dac_model_node.specs.Step.{Stepped, Steps, IsShown}
use Rattle.dac_model_node.specs.Accepted.{IsNoting}

-- the join of a longer log
pub joined-append : (log states : List StateValue) → joined (log ++ states) ≡ fold join (joined log) states
joined-append log states = fold-append join bottom log states

-- ---- a transition that notes nothing doesn't depend on the waits
quiet_tick : (opening : Opening) (t : Table) (r : RunningValue) (n m : List (Option Noted)) (now : ℕ) → (ticks_by opening t r n now).notes ≡ false → ticks_by opening t r n now ≡ ticks_by opening t r m now
quiet_tick Shut t r n m now h = refl
quiet_tick GiveUp t r n m now h = refl
quiet_tick Opened t r n m now h = absurd (true≢false h)

quiet_transition : (t : Table) (r : RunningValue) (n m : List (Option Noted)) (e : Event) → (transition_of t r n e).notes ≡ false → transition_of t r n e ≡ transition_of t r m e
quiet_transition t r n m (Boot now) h = refl
quiet_transition t r n m Crash h = refl
quiet_transition t r n m (Commanded c) h = refl
quiet_transition t r n m (Tick now) h = quiet_tick (opening_at t r now) t r n m now h
quiet_transition t r n m (Ship to) h = refl
quiet_transition t r n m _ h = refl

quiet_run : (r : RunningValue) (n m : List (Option Noted)) (transition : Transition) → transition.notes ≡ false → running_by r n transition ≡ running_by r m transition
quiet_run r n m transition h =
    ap (λ (b : Bool). with b n) h ∙ sym (ap (λ (b : Bool). with b m) h)
  where
    with : Bool → List (Option Noted) → Option RunningValue
    with b noted = cond transition.goes_off None (Some (record {
      origin = r.origin;
      moments = record { booted = r.moments.booted; last = transition.last };
      is_open = transition.is_open;
      waits = cond b noted r.waits;
      state = fold join r.state transition.adds;
      kept = trimmed (fold pushed r.kept transition.adds) transition.trim;
      peers = transition.peers;
    }))

-- a transition and its result depend on the waits only if the event notes
pub same_transition : (t : Table) (r : RunningValue) (n m : List (Option Noted)) (e : Event) → ((transition_of t r n e).notes ≡ true → n ≡ m) → (transition_of t r n e ≡ transition_of t r m e) × (running_by r n (transition_of t r n e) ≡ running_by r m (transition_of t r m e))
same_transition t r n m e same =
    elim (transition_of t r n e).notes as (λ b. (transition_of t r n e).notes ≡ b → (transition_of t r n e ≡ transition_of t r m e) × (running_by r n (transition_of t r n e) ≡ running_by r m (transition_of t r m e))) [
      | true ↦ λ h. (ap (λ k. transition_of t r k e) (same h), ap (λ k. running_by r k (transition_of t r k e)) (same h))
      | false ↦ λ h. (quiet_transition t r n m e h, quiet_run r n m (transition_of t r n e) h ∙ ap (running_by r m) (quiet_transition t r n m e h))
    ] refl

-- ---- the value shown after a transition

-- the delta log after more deltas and a trim is the one of the longer log
kept-after : (base : ℕ) (log adds : List StateValue) (trim : ℕ) → AreNewest (kept_of base log) → kept_of (base_after base (length (log ++ adds)) trim) (log ++ adds) ≡ trimmed (fold pushed (kept_of base log) adds) trim
kept-after base log adds trim newest =
    let left = length-drop base log in
    let numbered = newest.numbered in
    let few = newest.few in
    sym (ap (λ k. trimmed k trim) (pushes_append_all base log adds (omega arith) (omega arith)) ∙ trims_move_the_base (max base (length (log ++ adds) - MAX_DELTAS)) (log ++ adds) trim)

module _ (t : Table) (r : ModelRunning) (newest : AreNewest (kept_of r.base r.log)) (note : Note) (last : ℕ) (is_open : Bool) (adds : List StateValue) (peers : PeersValue) (trim : ℕ) where
  -- the model node with these notes
  abbrev later : List Note → ModelRunning
  later notes = record { origin = r.origin; moments = record { booted = r.moments.booted; last = last }; is_open = is_open; notes = notes; log = r.log ++ adds; base = base_after r.base (length (r.log ++ adds)) trim; peers = peers }

  -- the program's running node with these waits
  abbrev value : List (Option Noted) → RunningValue
  value waits = record { origin = r.origin; moments = record { booted = r.moments.booted; last = last }; is_open = is_open; waits = waits; state = fold join (joined r.log) adds; kept = trimmed (fold pushed (kept_of r.base r.log) adds) trim; peers = peers }

  later_shown : (notes : List Note) → running_shown t (later notes) ≡ value (waits_of t notes)
  later_shown notes = λ i. record { origin = r.origin; moments = record { booted = r.moments.booted; last = last }; is_open = is_open; waits = waits_of t notes; state = joined-append r.log adds i; kept = kept-after r.base r.log adds trim newest i; peers = peers }

  shown_run : (off notes : Bool) → option_map (running_shown t) (cond off None (Some (later (cond notes (note ∷ r.notes) r.notes)))) ≡ cond off None (Some (value (cond notes (waits_of t (note ∷ r.notes)) (waits_of t r.notes))))
  shown_run true notes = refl
  shown_run false true = ap (λ (x : RunningValue). Some x) (later_shown (note ∷ r.notes))
  shown_run false false = ap (λ (x : RunningValue). Some x) (later_shown r.notes)

-- the transitions are the same, if the program notes as the definition does
pub transition_same : (t : Table) (r : ModelRunning) (noted : List (Option Noted)) (e : Event) → AreNewest (kept_of r.base r.log) → IsNoting t (running_shown t r) noted e
    → (transition_on t r e ≡ transition_of t (running_shown t r) noted e) × (option_map (running_shown t) (goes_on r (note_of (joined r.log) e) (transition_on t r e)) ≡ running_by (running_shown t r) noted (transition_of t (running_shown t r) noted e))
transition_same t r noted e newest noting =
    let here = running_shown t r in
    let own = waits_of t (note_of (joined r.log) e ∷ r.notes) in
    let same = same_transition t here noted own e (λ h. noting h r.notes refl) in
    let transition = transition_on t r e in
    (sym same.0, shown_run t r newest (note_of (joined r.log) e) transition.last transition.is_open transition.adds transition.peers transition.trim transition.goes_off transition.notes ∙ sym same.1)

-- the deltas that a running node keeps are the newest
abbrev AreNewestBy : Option RunningValue → Type 0
AreNewestBy running = IfSome running (λ (r : RunningValue). AreNewest r.kept)

-- after an accepted event the model node shows as the program's node
pub shown_accepted : (t : Table) (me : NodeId) (last : ℕ) (running : Option ModelRunning) (noted : List (Option Noted)) (e : Event) → AreNewestBy (option_map (running_shown t) running) → IsNotingBy t (option_map (running_shown t) running) noted e
    → shown t (accepted t me last running e).node ≡ left_by t me last (option_map (running_shown t) running) noted e
shown_accepted t me last None noted e newest noting = refl
shown_accepted t me last (Some r) noted e newest noting = ap (λ running. record { last = last; running = running }) (transition_same t r noted e newest noting).1

-- the model node has the same reply
pub answer_accepted : (t : Table) (me : NodeId) (last : ℕ) (running : Option ModelRunning) (noted : List (Option Noted)) (e : Event) → AreNewestBy (option_map (running_shown t) running) → IsNotingBy t (option_map (running_shown t) running) noted e
    → (accepted t me last running e).answer ≡ Ok (reply_by t me last (option_map (running_shown t) running) noted e)
answer_accepted t me last None noted e newest noting = refl
answer_accepted t me last (Some r) noted e newest noting = ap (λ (transition : Transition). Ok transition.reply) (transition_same t r noted e newest noting).0

-- the step of an accepted event
pub step_accepted : (t : Table) (me : NodeId) (d : ModelNode) (e : Event) → refusal_of t (shown t d) e ≡ None → model_step t me d e ≡ accepted t me d.last d.running e
step_accepted t me d e none = ap (λ r. step_by r t me d e) none

-- an accepted value is a step of each model node that shows as the old one
pub steps : (t : Table) (me : NodeId) (old : NodeValue) (e : Event) (new : NodeValue) (reply : Reply) → AcceptedAs t me old e new reply → Steps t me old e new (Ok reply)
steps t me old e new reply p = record { by = λ d same. subst (λ v. AcceptedAs t me v e new reply → (shown t (model_step t me d e).node ≡ new) × ((model_step t me d e).answer ≡ Ok reply)) same (from d) p }
  where
    from : (d : ModelNode) → AcceptedAs t me (shown t d) e new reply → (shown t (model_step t me d e).node ≡ new) × ((model_step t me d e).answer ≡ Ok reply)
    from d q =
        let st = step_accepted t me d e q.accepted in (
          ap (λ (s : Stepped). shown t s.node) st ∙ (shown_accepted t me d.last d.running q.noted e q.newest q.noting ∙ sym q.left),
          ap (λ (s : Stepped). s.answer) st ∙ (answer_accepted t me d.last d.running q.noted e q.newest q.noting ∙ ap (λ r. Ok r) (sym q.reply)),
        )

-- an event that the table refuses is a step that changes nothing
pub refused_steps : (t : Table) (me : NodeId) (v : NodeValue) (e : Event) (why : Refusal) → refusal_of t v e ≡ Some why → Steps t me v e v (Err why)
refused_steps t me v e why is = record {
  by = λ d same.
      let st = ap (λ r. step_by r t me d e) (ap (λ x. refusal_of t x e) same ∙ is) in
      (ap (λ (s : Stepped). shown t s.node) st ∙ same, ap (λ (s : Stepped). s.answer) st);
}

-- an event refused for another cause than `NoMemory` is such a step
pub answered_steps : (t : Table) (me : NodeId) (v : NodeValue) (e : Event) (why : Refusal) → why ≡ unwrap_or (refusal_of t v e) NoMemory → (why ≡ NoMemory → ⊥) → Steps t me v e v (Err why)
answered_steps t me v e why is other = by_refusal (refusal_of t v e) refl is
  where
    by_refusal : (r : Option Refusal) → refusal_of t v e ≡ r → why ≡ unwrap_or r NoMemory → Steps t me v e v (Err why)
    by_refusal None none p = absurd (other p)
    by_refusal (Some least) some p = refused_steps t me v e why (some ∙ ap (λ r. Some r) (sym p))

-- A model node shows as each node that is off, and if one shows as a node, one shows as the node after a step
pub off_shown : (t : Table) (last : ℕ) → IsShown t (off last)
off_shown t last = (record { last = last; running = None }, refl)

pub stays_shown : (t : Table) (me : NodeId) (old : NodeValue) (e : Event) (new : NodeValue) (reply : Reply) → AcceptedAs t me old e new reply → IsShown t old → IsShown t new
stays_shown t me old e new reply p is = ((model_step t me is.0 e).node, ((steps t me old e new reply p).by is.0 is.1).0)
