-- A node after an accepted event.
use Rattle.std.proofs.Common.{◌≡◌, ℕ, ◌+◌, ◌-◌, Bool, true, false, not, cond, List, [], ◌∷◌, ◌++◌, length, drop, Option, Some, None, refl, sym, ap, ◌∙◌, arith, drop-drop}
use Rattle.dac_model_node.specs.laws.Common.{fold, min, max, unwrap_or, IfSome, NodeId, Table, StateValue, join, meaning_of, is_below, KeptDeltas, pushed, trimmed, Opening, Shut, Opened, GiveUp, Noted, content_of, Event, Boot, Crash, Tick, Ship, Hear, HearOp, RunningValue, refusal_by, Transition, transition_of, opening_at, ticks_by, AreNewest, IsNotingBy, left_by, reply_by, running_by, LeavesRunning, RunsOn, deltas_in, had_by_all, MAX_DELTAS}
use Rattle.dac_deltas.specs.laws.Logs.{same_kept, pushes_drop_together}
use Rattle.dac_messages.specs.declared.event.Event.TheVariants.{Command as Commanded}
use Rattle.dac_model_node.specs.Refused.{tick_in}
use Rattle.dac_model_node.specs.Keeping.{AreWaitsAfter, Keeps, is_open_after, kept_after, peers_after}
use Rattle.dac_model_node.specs.laws.Writing.{NotesSo, start_gate, no_off, no_on}

-- ---- the delta log

-- the log after more deltas and a trim
kept_so : (k : KeptDeltas StateValue) → AreNewest k → (deltas : List StateValue) (trim : ℕ) → trimmed (fold pushed k deltas) trim ≡ kept_after k deltas trim
kept_so k newest deltas trim =
    let numbered = newest.numbered in
    let few = newest.few in
    let count = k.count + length deltas in
    let base = max (max k.base (count - MAX_DELTAS)) (min trim count) in
    let gone = length k.deltas + length deltas - MAX_DELTAS in
    let more = min trim count - (k.base + gone) in
    let to : k.base + gone + more ≡ base = omega arith in
    let all : gone + more ≡ base - k.base = omega arith in
    ap (λ (x : KeptDeltas StateValue). trimmed x trim) (pushes_drop_together k deltas few)
    ∙ same_kept _ _ _ _ _ _ refl to (drop-drop more gone (k.deltas ++ deltas) ∙ ap (λ n. drop n (k.deltas ++ deltas)) all)

-- an incoming state is a delta exactly when the reply says that it is new
new_comes : (body : StateValue) (b : Bool) → cond b [] (body ∷ []) ≡ cond (not b) (body ∷ []) []
new_comes body true = refl
new_comes body false = refl

-- ---- a node that runs on

module _ (t : Table) (r : RunningValue) (newest : AreNewest r.kept) (noted : List (Option Noted)) (e : Event) (transition : Transition) where
  abbrev next : RunningValue
  next = record {
    origin = r.origin;
    moments = record { booted = r.moments.booted; last = transition.last };
    is_open = transition.is_open;
    waits = cond transition.notes noted r.waits;
    state = fold join r.state transition.adds;
    kept = trimmed (fold pushed r.kept transition.adds) transition.trim;
    peers = transition.peers;
  }

  runs_on : transition.last ≡ unwrap_or (tick_in e) r.moments.last → transition.is_open ≡ is_open_after r.is_open transition.reply → AreWaitsAfter t r e transition.reply (cond transition.notes noted r.waits) → transition.adds ≡ deltas_in e transition.reply → transition.peers ≡ peers_after r e → transition.trim ≡ had_by_all t e next → RunsOn t r e transition.reply next
  runs_on last gate_is waits adds peers trim = record {
    origin = refl;
    booted = refl;
    last = last;
    is_open = gate_is;
    waits = waits;
    state = ap (fold join r.state) adds;
    peers = peers;
    kept = kept_so r.kept newest transition.adds transition.trim ∙ (λ i. kept_after r.kept (adds i) (trim i));
  }

-- ---- all events

module _ (t : Table) (last : ℕ) (r : RunningValue) (newest : AreNewest r.kept) (noted : List (Option Noted)) where
  -- a tick, given the state of the start gate
  tick_leaves : (now : ℕ) (opening : Opening) → opening_at t r now ≡ opening → ((ticks_by opening t r noted now).notes ≡ true → NotesSo t r now noted) →
      LeavesRunning t r (Tick now) (ticks_by opening t r noted now).reply (running_by r noted (ticks_by opening t r noted now))
  tick_leaves now Shut is so = runs_on t r newest noted (Tick now) (ticks_by Shut t r noted now) refl (sym (start_gate t r now r.is_open Shut refl is).0) refl refl refl refl
  tick_leaves now GiveUp is so = refl
  tick_leaves now Opened is so = runs_on t r newest noted (Tick now) (ticks_by Opened t r noted now) refl refl (so refl) refl refl refl

  leaves : (e : Event) → refusal_by t last (Some r) e ≡ None → IsNotingBy t (Some r) noted e → LeavesRunning t r e (transition_of t r noted e).reply (running_by r noted (transition_of t r noted e))
  leaves (Boot now) none noting = no_on none
  leaves Crash none noting = refl
  leaves (Commanded c) none noting = runs_on t r newest noted (Commanded c) (transition_of t r noted (Commanded c)) refl refl refl refl refl refl
  leaves (Tick now) none noting = tick_leaves now (opening_at t r now) refl noting
  leaves (Ship to) none noting = runs_on t r newest noted (Ship to) (transition_of t r noted (Ship to)) refl refl refl refl refl refl
  leaves (Hear m) none noting = let body = content_of m.body in runs_on t r newest noted (Hear m) (transition_of t r noted (Hear m)) refl refl refl (new_comes body (is_below body r.state)) refl refl
  leaves (HearOp o) none noting = let body = meaning_of (o ∷ []) in runs_on t r newest noted (HearOp o) (transition_of t r noted (HearOp o)) refl refl refl (new_comes body (is_below body r.state)) refl refl

pub keeps : (t : Table) (me : NodeId) (last : ℕ) (running : Option RunningValue) (noted : List (Option Noted)) (e : Event) → refusal_by t last running e ≡ None → IfSome running (λ (r : RunningValue). AreNewest r.kept) → IsNotingBy t running noted e →
    Keeps t me (record { last = last; running = running }) e (reply_by t me last running noted e) (left_by t me last running noted e)
keeps t me last None noted (Boot now) none newest noting = (refl, record { origin = refl; booted = refl; last = refl; is_open = refl; waits = refl; state = refl; peers = refl; kept = refl })
keeps t me last None noted Crash none newest noting = no_off none
keeps t me last None noted (Commanded c) none newest noting = no_off none
keeps t me last None noted (Tick now) none newest noting = no_off none
keeps t me last None noted (Ship to) none newest noting = no_off none
keeps t me last None noted (Hear m) none newest noting = no_off none
keeps t me last None noted (HearOp o) none newest noting = no_off none
keeps t me last (Some r) noted e none newest noting = (refl, leaves t last r newest noted e none noting)
