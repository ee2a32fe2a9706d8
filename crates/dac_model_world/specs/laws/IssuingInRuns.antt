-- A node issues its own operations, with consecutive counters of its incarnation.
use Rattle.std.proofs.Common.{◌≡◌, ℕ, ◌<◌, ◌≤◌, ◌+◌, true, false, cond, List, [], ◌∷◌, ◌++◌, Option, Some, None, Ok, Err, inl, inr, nat_eq, refl, sym, ap, subst, ◌∙◌, eq-eqb, le_refl, arith}
use Rattle.dac_model_world.specs.laws.Common.{nat_lt, option_map, exact_unsigned_eq, NodeId, Origin, Operation, StateValue, join, meaning_of, IsOperationOf, AreOperationsOf, DotsDetermine, Within-append, In-append_left, In-append_right, Table, Opening, Shut, Opened, GiveUp, Noted, Note, waits_of, WorldEvent, Message, Event, Boot, Crash, Tick, Ship, Hear, HearOp, act_of, next_operation, refusal_of_command, NoSuchNode, sweep_of, AreIssued, ModelNode, ModelRunning, joined, shown, running_shown, refusal_of, refusal_by, refusal_to_tick, ticks_by, opening_at, moment_of, note_of, step_by, accepted, up, comes_up, goes_on, claims_are, claims_issued, leaves_room, ModelWorld, happens, happens_by, answered_by, event_of, with_node, start, Step, Run, SetWorld, operations_of, set_step, AreOwn}
use Rattle.dac_messages.specs.declared.event.Event.TheVariants.{Command as Commanded}
use Rattle.dac_model_world.specs.Issuing.{IsBoot, AreIssuedAt, TellsIssued, TellIssued}
use Rattle.dac_model_world.specs.laws.Operations.{Agree-within, DistinctDots-agree}
use Rattle.dac_model_world.specs.laws.OneNode.{own_origin, runs_as}
use Rattle.dac_model_world.specs.laws.Runs.{run_first}
use Rattle.dac_model_world.specs.laws.Carried.{none_some}
use Rattle.dac_model_world.specs.laws.Replacing.{AreNext, up_next, after_command, after_claims}
use Rattle.dac_model_world.specs.laws.CausalRuns.{first_free}
use Rattle.dac_model_world.specs.laws.Numbering.{InOrder, order_none, order_later, AreOf, order_all}
use Rattle.dac_model_world.specs.laws.Sound.{Answer, Sound, held_at, sound_happens, sound_step}

-- ---- the invariant
-- the issued operations are in order, and each running node's incarnation has its Up among them
pub record Numbered (w : ModelWorld) : Type 0 where
  pub order : InOrder w.operations (λ n. (w.node n).last)
  pub came : (n : NodeId) (r : ModelRunning) → (w.node n).running ≡ Some r → IsOperationOf (up (own_origin n (w.node n).last)) w.operations

pub numbered_start : (t : Table) → Numbered (start t)
numbered_start t = record { order = order_none _; came = λ n r e. none_some e }

-- operations that an incarnation issues are its own
are_of : (own : Origin) (s : StateValue) (more : List Operation) → AreIssued own s more → AreOf own more
are_of own s [] h = tt
are_of own s (o ∷ more) h = (ap (λ (x : Operation). x.dot.origin) h.0.1, are_of own (join s (meaning_of (o ∷ []))) more h.1)

same_node : (m n : NodeId) → nat_eq m.0 n.0 ≡ true → m ≡ n
same_node m n e = ap (λ k. record { 0 = k }) (exact_unsigned_eq m.0 n.0 e)

-- ---- one event of the world
module _ (t : Table) (w : ModelWorld) (s : SetWorld) (e : WorldEvent) (h : Sound w s) (k : Numbered w) where
  abbrev n : NodeId
  n = e.node

  -- the last incarnations after node n goes on to d
  abbrev lasts : ModelNode → NodeId → ℕ
  lasts d m = (with_node w.node n d m).last

  on_later : (d : ModelNode) → (w.node n).last ≤ d.last → (m : NodeId) → (w.node m).last ≤ lasts d m
  on_later d le m = elim (nat_eq m.0 n.0) as (λ b. nat_eq m.0 n.0 ≡ b → (w.node m).last ≤ (cond b d (w.node m)).last) [
    | true ↦ λ same. subst (λ (x : NodeId). (w.node x).last ≤ d.last) (sym (same_node m n same)) le
    | false ↦ λ _. le_refl (w.node m).last
  ] refl

  alive_at : (d : ModelNode) → d.last ≤ lasts d n
  alive_at d = subst (λ b. d.last ≤ (cond b d (w.node n)).last) (sym (eq-eqb n.0 n.0 refl)) (le_refl d.last)

  -- node n goes on to d, issues qs and ships ms
  numbered_next : (d : ModelNode) (qs : List Operation) (ms : List Message) → InOrder (w.operations ++ qs) (lasts d) → ((r : ModelRunning) → d.running ≡ Some r → IsOperationOf (up (own_origin n d.last)) (w.operations ++ qs)) →
      Numbered (record { count = w.count; node = with_node w.node n d; operations = w.operations ++ qs; messages = w.messages ++ ms })
  numbered_next d qs ms order here = record {
    order = order;
    came = λ m. elim (nat_eq m.0 n.0) as (λ b. nat_eq m.0 n.0 ≡ b → (r : ModelRunning) → (cond b d (w.node m)).running ≡ Some r → IsOperationOf (up (own_origin m (cond b d (w.node m)).last)) (w.operations ++ qs)) [
      | true ↦ λ same r p. subst (λ (x : NodeId). IsOperationOf (up (own_origin x d.last)) (w.operations ++ qs)) (sym (same_node m n same)) (here r p)
      | false ↦ λ _ r p. In-append_left (up (own_origin m (w.node m).last)) w.operations qs (k.came m r p)
    ] refl;
  }

  -- a node boots
  booted : IsBoot n (operations_of s.issued) (up (own_origin n ((w.node n).last + 1)))
  booted = record {
    act = refl;
    inc = (w.node n).last + 1;
    first = refl;
    later = λ p i at. one_above p.dot.origin.inc (w.node n).last ((h.nodes n).old p (subst (IsOperationOf p) h.issued i) at);
  }
    where
      one_above : (i l : ℕ) → i ≤ l → i < l + 1
      one_above i l a = omega arith

  boots : (now : ℕ) → let own = own_origin n ((w.node n).last + 1) in
      Numbered (record { count = w.count; node = with_node w.node n (runs_as ((w.node n).last + 1) (comes_up own now)); operations = w.operations ++ up own ∷ []; messages = w.messages ++ [] })
  boots now =
      let last = (w.node n).last in
      let own = own_origin n (last + 1) in
      let d = runs_as (last + 1) (comes_up own now) in
      let order = order_later w.operations (λ m. (w.node m).last) (lasts d) (on_later d (one_later last)) k.order in
      let all = order_all own (lasts d) (alive_at d) w.operations [] (up own ∷ []) order (λ o i. absurd i)
      (λ p i at. absurd (too_late last p.dot.origin.inc ((h.nodes n).old p i (ap (λ (q : Origin). q.node) at)) (ap (λ (q : Origin). q.inc) at)))
      (refl, tt) (up_next own, tt) in
      numbered_next d (up own ∷ []) [] all.1 (λ r p. In-append_right (up own) w.operations (up own ∷ []) (inl refl))
    where
      one_later : (l : ℕ) → l ≤ l + 1
      one_later l = omega arith

      too_late : (l i : ℕ) → i ≤ l → i ≡ l + 1 → ⊥
      too_late l i a b = omega arith

  module _ (r : ModelRunning) (on : (w.node n).running ≡ Some r) where
    -- a running node goes on in its incarnation
    goes : (after : Option ModelRunning) (qs : List Operation) (ms : List Message) → AreOf r.origin qs → AreNext (held_at w s n r h on).set.operations qs →
        AreIssuedAt s n qs × Numbered (record { count = w.count; node = with_node w.node n (record { last = (w.node n).last; running = after }); operations = w.operations ++ qs; messages = w.messages ++ ms })
    goes after qs ms of next =
        let last = (w.node n).last in
        let held = held_at w s n r h on in
        let d : ModelNode = record { last = last; running = after } in
        let order = order_later w.operations (λ m. (w.node m).last) (lasts d) (on_later d (le_refl last)) k.order in
        let all = order_all (own_origin n last) (lasts d) (alive_at d) w.operations held.set.operations qs order held.ok.within held.ok.own (subst (λ q. AreOf q qs) held.mine of) next in
        let issued : AreIssuedAt s n qs = record {
          held = held.set;
          on = held.is;
          own = subst (λ (p : Origin × List Operation). AreOwn p.0 p.1 qs) (λ i. (own_origin n (sym held.inc i), sym h.issued i)) all.0;
        } in
        (issued, numbered_next d qs ms all.1 (λ _ _. In-append_left (up (own_origin n last)) w.operations qs (k.came n r on)))

    -- a running node issues nothing
    stays : (after : Option ModelRunning) (ms : List Message) → Numbered (record { count = w.count; node = with_node w.node n (record { last = (w.node n).last; running = after }); operations = w.operations ++ []; messages = w.messages ++ ms })
    stays after ms = (goes after [] ms tt tt).1

    claims_next : (noted : List (Option Noted)) (now : ℕ) → refusal_to_tick t (running_shown t r) now ≡ None → let more = (sweep_of t r.origin noted now (joined r.log)).ops in DotsDetermine (w.operations ++ more) → AreNext (held_at w s n r h on).set.operations more
    claims_next noted now none agree =
        let held = held_at w s n r h on in
        let os = held.set.operations in
        let more = (sweep_of t r.origin noted now (joined r.log)).ops in
        let all = w.operations ++ more in
        let inside : AreOperationsOf (os ++ more) all = Within-append os more all (λ o i. In-append_left o w.operations more (held.ok.within o i)) (λ o i. In-append_right o w.operations more i) in
        after_claims t r.origin (joined r.log) os more held.state (Agree-within (os ++ more) all inside agree) (claims_are t r.origin noted now (joined r.log) (leaves_room t (running_shown t r) now none))

    ticks : (note : Note) (noted : List (Option Noted)) (now : ℕ) (opening : Opening) → refusal_to_tick t (running_shown t r) now ≡ None →
        let transition = ticks_by opening t (running_shown t r) noted now in
        let by = answered_by w n (record { last = (w.node n).last; running = goes_on r note transition }) (Ok transition.reply) in
        Sound by.world (set_step s n e.what by.answer) → TellsIssued s e by.answer × Numbered by.world
    ticks note noted now Shut none next = (tt, stays _ [])
    ticks note noted now GiveUp none next = (tt, stays _ [])
    ticks note noted now Opened none next =
        let more = (sweep_of t r.origin noted now (joined r.log)).ops in
        goes _ more [] (are_of r.origin (joined r.log) more (claims_issued t r.origin noted now (joined r.log))) (claims_next noted now none (DistinctDots-agree _ next.distinct))

  -- an accepted event
  numbered_ok : (at : Event) (running : Option ModelRunning) → refusal_of t (shown t (w.node n)) at ≡ None → (w.node n).running ≡ running →
      let step = accepted t n (w.node n).last running at in
      let by = answered_by w n step.node step.answer in
      Sound by.world (set_step s n e.what by.answer) → TellsIssued s e by.answer × Numbered by.world
  numbered_ok at None none on next = (booted, boots (moment_of at))
  numbered_ok (Boot now) (Some r) none on next = (tt, stays r on _ [])
  numbered_ok Crash (Some r) none on next = (tt, stays r on _ [])
  numbered_ok (Commanded c) (Some r) none on next =
      let held = held_at w s n r h on in
      let free : refusal_of_command t r.origin (joined r.log) c ≡ None = first_free (refusal_of_command t r.origin (joined r.log) c) _ (ap (λ (l : Option ModelRunning). refusal_by t (w.node n).last (option_map (running_shown t) l) (Commanded c)) (sym on) ∙ none) in
      goes r on _ (next_operation (joined r.log) r.origin (act_of t (joined r.log) c) ∷ []) [] (refl, tt) (after_command t r.origin (joined r.log) c held.set.operations held.state free, tt)
  numbered_ok (Tick now) (Some r) none on next =
      let free : refusal_to_tick t (running_shown t r) now ≡ None = ap (λ (l : Option ModelRunning). refusal_by t (w.node n).last (option_map (running_shown t) l) (Tick now)) (sym on) ∙ none in
      ticks r on (note_of (joined r.log) (Tick now)) (waits_of t (note_of (joined r.log) (Tick now) ∷ r.notes)) now (opening_at t (running_shown t r) now) free next
  numbered_ok (Ship to) (Some r) none on next = (tt, stays r on _ (_ ∷ []))
  numbered_ok (Hear m) (Some r) none on next = (tt, stays r on _ [])
  numbered_ok (HearOp o) (Some r) none on next = (tt, stays r on _ [])

  abbrev Tells : ModelWorld → Answer → Type 0
  Tells next a = Sound next (set_step s n e.what a) → TellsIssued s e a × Numbered next

  numbered_by : let by = happens_by t w n (event_of w.operations w.messages e.what) in Tells by.world by.answer
  numbered_by =
      elim (event_of w.operations w.messages e.what) as (λ r. Tells (happens_by t w n r).world (happens_by t w n r).answer) [
        | Err fault ↦ λ _. (tt, k)
        | Ok at ↦ elim (refusal_of t (shown t (w.node n)) at) as (λ r. refusal_of t (shown t (w.node n)) at ≡ r → let st = step_by r t n (w.node n) at in let by = answered_by w n st.node st.answer in Tells by.world by.answer) [
          | Some why ↦ λ _ _. (tt, k)
          | None ↦ λ none. numbered_ok at (w.node n).running none refl
        ] refl
      ]

  numbered_happens : Tells (happens t w e).world (happens t w e).answer
  numbered_happens =
      elim (nat_lt n.0 w.count) as (λ b. let by = cond b (happens_by t w n (event_of w.operations w.messages e.what)) (record { world = w; answer = Err NoSuchNode }) in Tells by.world by.answer) [
        | true ↦ numbered_by
        | false ↦ λ _. (tt, k)
      ]

numbered_step : (t : Table) (w : ModelWorld) (s : SetWorld) (e : WorldEvent) (a : Answer) (next : ModelWorld) → Sound w s → Numbered w → Step w (happens t w e) a next → TellsIssued s e a × Numbered next
numbered_step t w s e a next h k (inl d) = subst (λ (p : ModelWorld × Answer). TellsIssued s e p.1 × Numbered p.0) (λ i. (sym d.went_on i, sym d.answered i)) (numbered_happens t w s e h k (sound_happens t w s e h))
numbered_step t w s e a next h k (inr l) = subst (λ (p : ModelWorld × Answer). TellsIssued s e p.1 × Numbered p.0) (λ i. (sym l.stayed i, sym l.answered i)) (tt, k)

-- nodes issue their own operations in every run of the model world
pub issued_run : (t : Table) (w : ModelWorld) (s : SetWorld) (es : List WorldEvent) (answers : List Answer) (final : ModelWorld) → Sound w s → Numbered w → Run t w es answers final → TellIssued s es answers × Numbered final
issued_run t w s [] [] final h k r = (tt, subst Numbered (sym r.1) k)
issued_run t w s [] (a ∷ answers) final h k r = absurd r.0
issued_run t w s (e ∷ es) [] final h k r = absurd r.0
issued_run t w s (e ∷ es) (a ∷ answers) final h k run =
    let r = run_first t w e es a answers final run in
    let one = numbered_step t w s e a r.0 h k r.1.0 in
    let rest = issued_run t r.0 (set_step s e.node e.what a) es answers final (sound_step t w s e a r.0 h r.1.0) one.1 r.1.1 in
    ((one.0, rest.0), rest.1)
