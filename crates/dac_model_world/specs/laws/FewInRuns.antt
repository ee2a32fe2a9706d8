-- A running node has no more deltas than its results account for.
use Rattle.std.proofs.Common.{◌≡◌, ℕ, ◌≤◌, ◌+◌, Bool, true, false, not, cond, List, [], ◌∷◌, ◌++◌, length, Option, Some, None, Result, Ok, Err, inl, inr, nat_eq, refl, sym, ap, subst, ◌∙◌, le_refl, arith}
use Rattle.dac_model_world.specs.laws.Common.{nat_lt, exact_unsigned_eq, length-append, length-map, NodeId, Operation, StateValue, meaning_of, is_below, Table, Opening, Shut, Opened, GiveUp, Noted, Note, waits_of, WorldEvent, content_of, Event, Boot, Crash, Tick, Ship, Hear, HearOp, Reply, Booted, Heard, NoMemory, sweep_of, RunningValue, ModelNode, ModelRunning, joined, shown, running_shown, refusal_of, Transition, brings, transition_of, ticks_by, opening_at, moment_of, note_of, step_by, up, comes_up, goes_on, transition_on, accepted, some_same, WorldFault, NoSuchNode, Refused, ModelWorld, happens, happens_by, answered_by, event_of, with_node, Step, deltas_with}
use Rattle.dac_messages.specs.declared.event.Event.TheVariants.{Command as Commanded}
use Rattle.dac_model_world.specs.Fits.{deltas_after}
use Rattle.dac_model_world.specs.laws.OneNode.{own_origin, runs_as}
use Rattle.dac_model_world.specs.laws.Carried.{none_some}

-- no running node has more deltas than these
abbrev pub IsFew : (NodeId → ℕ) → ModelWorld → Type 0
IsFew deltas w = (n : NodeId) (r : ModelRunning) → (w.node n).running ≡ Some r → length r.log ≤ deltas n

-- ---- the deltas that a transition adds
abbrev AddsFew : Transition → Type 0
AddsFew transition = (before : ℕ) → before + length transition.adds ≤ deltas_after before (Ok transition.reply)

brings_few : (s body : StateValue) (before : ℕ) → before + length (brings s body) ≤ deltas_after before (Ok (Heard (not (is_below body s))))
brings_few s body before = elim (is_below body s) as (λ b. before + length (cond b [] (body ∷ [])) ≤ cond (not b) (before + 1) before) [ true ↦ omega arith | false ↦ omega arith ]

tick_adds : (opening : Opening) (t : Table) (r : RunningValue) (noted : List (Option Noted)) (now : ℕ) → AddsFew (ticks_by opening t r noted now)
tick_adds Shut t r noted now before = omega arith
tick_adds GiveUp t r noted now before = omega arith
tick_adds Opened t r noted now before = let ops = (sweep_of t r.origin noted now r.state).ops in together before _ _ (length-map ops (λ (o : Operation). meaning_of (o ∷ [])))
  where
    together : (b m k : ℕ) → m ≡ k → b + m ≤ b + k
    together b m k e = omega arith

transition_adds : (t : Table) (r : RunningValue) (noted : List (Option Noted)) (e : Event) → AddsFew (transition_of t r noted e)
transition_adds t r noted (Boot now) before = omega arith
transition_adds t r noted Crash before = omega arith
transition_adds t r noted (Commanded c) before = omega arith
transition_adds t r noted (Tick now) before = tick_adds (opening_at t r now) t r noted now before
transition_adds t r noted (Ship to) before = omega arith
transition_adds t r noted (Hear m) before = brings_few r.state (content_of m.body) before
transition_adds t r noted (HearOp o) before = brings_few r.state (meaning_of (o ∷ [])) before

at_most : (q l a m k : ℕ) → q ≡ l + a → l ≤ m → m + a ≤ k → q ≤ k
at_most q l a m k e p f = omega arith

-- the node after a transition
goes_few : (r : ModelRunning) (note : Note) (transition : Transition) (before : ℕ) → length r.log ≤ before → AddsFew transition → (q : ModelRunning) → goes_on r note transition ≡ Some q → length q.log ≤ deltas_after before (Ok transition.reply)
goes_few r note transition before few adds q e = by_off transition.goes_off _ refl e
  where
    by_off : (off : Bool) (after : ModelRunning) → after.log ≡ r.log ++ transition.adds → cond off None (Some after) ≡ Some q → length q.log ≤ deltas_after before (Ok transition.reply)
    by_off true after log p = none_some p
    by_off false after log p =
        let is : length q.log ≡ length r.log + length transition.adds = ap (λ (x : ModelRunning). length x.log) (sym (some_same after q p)) ∙ (ap length log ∙ length-append r.log transition.adds) in
        at_most (length q.log) (length r.log) (length transition.adds) before (deltas_after before (Ok transition.reply)) is few (adds before)

-- ---- one event of the world
module _ (t : Table) (w : ModelWorld) (deltas : NodeId → ℕ) (h : IsFew deltas w) where
  still_few : (n : NodeId) (fault : WorldFault) → IsFew (deltas_with deltas n (Err fault)) w
  still_few n fault m r e = elim (nat_eq m.0 n.0) as (λ b. nat_eq m.0 n.0 ≡ b → length r.log ≤ cond b (deltas n) (deltas m)) [
    | true ↦ λ same. subst (λ (k : NodeId). length r.log ≤ deltas k) (ap (λ i. record { 0 = i }) (exact_unsigned_eq m.0 n.0 same)) (h m r e)
    | false ↦ λ _. h m r e
  ] refl

  few_node : (n : NodeId) (d : ModelNode) (reply : Reply) → ((r : ModelRunning) → d.running ≡ Some r → length r.log ≤ deltas_after (deltas n) (Ok reply)) → (m : NodeId) (r : ModelRunning) → (with_node w.node n d m).running ≡ Some r → length r.log ≤ deltas_with deltas n (Ok reply) m
  few_node n d reply here m r = elim (nat_eq m.0 n.0) as (λ b. (cond b d (w.node m)).running ≡ Some r → length r.log ≤ cond b (deltas_after (deltas n) (Ok reply)) (deltas m)) [ true ↦ here r | false ↦ h m r ]

  few_ok : (n : NodeId) (e : Event) (running : Option ModelRunning) → (w.node n).running ≡ running →
      let st = accepted t n (w.node n).last running e in
      let by = answered_by w n st.node st.answer in
      IsFew (deltas_with deltas n by.answer) by.world
  few_ok n e None on =
      let own = own_origin n ((w.node n).last + 1) in
      few_node n (runs_as ((w.node n).last + 1) (comes_up own (moment_of e))) (Booted (up own)) (λ r p. subst (λ (q : ModelRunning). length q.log ≤ 1) (some_same (comes_up own (moment_of e)) r p) (le_refl 1))
  few_ok n e (Some r) on = let transition = transition_on t r e in few_node n (record { last = (w.node n).last; running = goes_on r (note_of (joined r.log) e) transition }) transition.reply (goes_few r (note_of (joined r.log) e) transition (deltas n) (h n r on) (transition_adds t (running_shown t r) (waits_of t (note_of (joined r.log) e ∷ r.notes)) e))

  few_by : (n : NodeId) (what : Result Event WorldFault) → IsFew (deltas_with deltas n (happens_by t w n what).answer) (happens_by t w n what).world
  few_by n (Err fault) = still_few n fault
  few_by n (Ok e) = elim (refusal_of t (shown t (w.node n)) e) as (λ r. let st = step_by r t n (w.node n) e in let by = answered_by w n st.node st.answer in IsFew (deltas_with deltas n by.answer) by.world) [
    | None ↦ few_ok n e (w.node n).running refl
    | Some why ↦ still_few n (Refused why)
  ]

  few_happens : (e : WorldEvent) → IsFew (deltas_with deltas e.node (happens t w e).answer) (happens t w e).world
  few_happens e =
      elim (nat_lt e.node.0 w.count) as (λ b. let by = cond b (happens_by t w e.node (event_of w.operations w.messages e.what)) (record { world = w; answer = Err NoSuchNode }) in IsFew (deltas_with deltas e.node by.answer) by.world) [
        | true ↦ few_by e.node (event_of w.operations w.messages e.what)
        | false ↦ still_few e.node NoSuchNode
      ]

pub few_step : (t : Table) (w : ModelWorld) (deltas : NodeId → ℕ) (e : WorldEvent) (a : Result Reply WorldFault) (next : ModelWorld) → IsFew deltas w → Step w (happens t w e) a next → IsFew (deltas_with deltas e.node a) next
few_step t w deltas e a next h (inl d) = subst (λ (p : ModelWorld × Result Reply WorldFault). IsFew (deltas_with deltas e.node p.1) p.0) (λ i. (sym d.went_on i, sym d.answered i)) (few_happens t w deltas h e)
few_step t w deltas e a next h (inr l) = subst (λ (p : ModelWorld × Result Reply WorldFault). IsFew (deltas_with deltas e.node p.1) p.0) (λ i. (sym l.stayed i, sym l.answered i)) (still_few t w deltas h e.node (Refused NoMemory))
