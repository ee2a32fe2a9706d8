-- Runs in which no single operation is handed: each set is closed, and each operation was issued as the next after a
-- closed set.
use Rattle.std.proofs.Common.{◌≡◌, ℕ, zero, suc, ◌-◌, ◌+◌, true, false, cond, inl, inr, List, [], ◌∷◌, ◌++◌, Option, Some, None, Ok, Err, nat_eq, refl, sym, ap, subst, ◌∙◌}
use Rattle.dac_model_world.specs.laws.Common.{nat_lt, slice_get, option_map, NodeId, Origin, Operation, AreOperationsOf, DotsDetermine, Within-append, In-append_left, In-append_right, Table, Opening, Shut, Opened, GiveUp, Noted, Note, waits_of, Command, WorldEvent, What, Deliver, Hand, Message, Event, Boot, Crash, Tick, Ship, Hear, HearOp, Reply, act_of, next_operation, Refusal, refusal_of_command, sweep_of, claims_are, ModelNode, ModelRunning, joined, shown, running_shown, refusal_of, refusal_by, refusal_to_tick, ticks_by, opening_at, note_of, step_by, up, goes_on, accepted, leaves_room, some_same, NoSuchNode, ModelWorld, happens, happens_by, answered_by, event_of, Step, Run, SetWorld, NodeSet, Issue, Copy, with_set, held_by, united, issues_of, is_for, copied_by, copied_to, brought_to, booting, issuing, going_off, set_step, set_run, no_sets, DistinctDots}
use Rattle.dac_messages.specs.declared.event.Event.TheVariants.{Command as Commanded}
use Rattle.dac_model_node.specs.EventRefusals.{otherwise}
use Rattle.dac_model_world.specs.ModelWorld.{counted}
use Rattle.dac_model_world.specs.Causality.{IsNoHanding, HandsNothing}
use Rattle.dac_model_world.specs.laws.Operations.{Agree-within, DistinctDots-agree}
use Rattle.dac_model_world.specs.laws.OneNode.{own_origin}
use Rattle.dac_model_world.specs.laws.Runs.{run_first}
use Rattle.dac_model_world.specs.laws.Sound.{Answer, Sound, held_at, sound_happens, sound_step}
use Rattle.dac_model_world.specs.laws.Replacing.{IsNextAfter, AreNext, up_next, after_command, after_claims}
use Rattle.dac_model_world.specs.laws.ClosedSets.{ClosedSet, closed_none, closed_append, closed_more, Differ, IssuesOk, IssuedAll, issue_all}

-- ---- the invariant
-- each copy is of a closed set
abbrev pub CopiesClosed : List Issue → List Copy → Type 0
CopiesClosed is [] = Unit {0}
CopiesClosed is (c ∷ cs) = ClosedSet is c.operations × CopiesClosed is cs

pub record Causal (s : SetWorld) : Type 0 where
  pub nodes : (n : NodeId) → ClosedSet s.issued (held_by (s.node n))
  pub copies : CopiesClosed s.issued s.copies
  pub issues : IssuesOk s.issued

-- ---- copies
copies_more : (is more : List Issue) (cs : List Copy) → Differ (is ++ more) → CopiesClosed is cs → CopiesClosed (is ++ more) cs
copies_more is more [] d h = tt
copies_more is more (c ∷ cs) d h = (closed_more is more c.operations d h.0, copies_more is more cs d h.1)

copies_append : (is : List Issue) (cs ds : List Copy) → CopiesClosed is cs → CopiesClosed is ds → CopiesClosed is (cs ++ ds)
copies_append is [] ds h k = k
copies_append is (c ∷ cs) ds h k = (h.0, copies_append is cs ds h.1 k)

copies_get : (is : List Issue) (cs : List Copy) (k : ℕ) (c : Copy) → CopiesClosed is cs → slice_get cs k ≡ Some c → ClosedSet is c.operations
copies_get is [] k c h e = absurd (none_some e)
  where
    none_some : None ≡ Some c → ⊥
    none_some p = cc
copies_get is (d ∷ cs) zero c h e = subst (λ (x : Copy). ClosedSet is x.operations) (some_same d c e) h.0
copies_get is (d ∷ cs) (suc k) c h e = copies_get is cs k c h.1 e

copies_counted : (is : List Issue) (cs : List Copy) (k : ℕ) (c : Copy) → CopiesClosed is cs → counted cs k ≡ Some c → ClosedSet is c.operations
copies_counted is cs k c h e =
    elim (nat_eq k 0) as (λ b. cond b None (slice_get cs (k - 1)) ≡ Some c → ClosedSet is c.operations) [
      | true ↦ λ p. absurd (no p)
      | false ↦ λ p. copies_get is cs (k - 1) c h p
    ] e
  where
    no : None ≡ Some c → ⊥
    no p = cc

-- ---- the effect of transitions on sets
-- replacing the set of node n
nodes_with : (is : List Issue) (node : NodeId → Option NodeSet) (n : NodeId) (held : Option NodeSet) → ClosedSet is (held_by held) → ((m : NodeId) → ClosedSet is (held_by (node m))) → (m : NodeId) → ClosedSet is (held_by (with_set node n held m))
nodes_with is node n held here others m = elim (nat_eq m.0 n.0) as (λ b. ClosedSet is (held_by (cond b held (node m)))) [ true ↦ here | false ↦ others m ]

closed_united : (is : List Issue) (o : Option NodeSet) (os : List Operation) → ClosedSet is (held_by o) → ClosedSet is os → ClosedSet is (held_by (united o os))
closed_united is None os c d = closed_none is
closed_united is (Some held) os c d = closed_append is held.operations os c d

closed_issued : (is : List Issue) (o : Option NodeSet) (more : List Operation) → IssuedAll is (held_by o) more → ClosedSet (is ++ issues_of (held_by o) more) (held_by (united o more))
closed_issued is None more r = closed_none (is ++ issues_of [] more)
closed_issued is (Some held) more r = r.set

closed_copied : (is : List Issue) (n : NodeId) (o : Option NodeSet) (c : Option Copy) → ((x : Copy) → c ≡ Some x → ClosedSet is x.operations) → ClosedSet is (copied_to n o c)
closed_copied is n None c f = closed_none is
closed_copied is n (Some held) None f = closed_none is
closed_copied is n (Some held) (Some c) f = elim (is_for n held.inc c) as (λ b. ClosedSet is (cond b c.operations [])) [ true ↦ f c refl | false ↦ closed_none is ]

copies_shipped : (is : List Issue) (o : Option NodeSet) (n : NodeId) (m : Message) → ClosedSet is (held_by o) → CopiesClosed is (copied_by o n m)
copies_shipped is None n m c = tt
copies_shipped is (Some held) n m c = (c, tt)

module _ (s : SetWorld) (n : NodeId) (h : Causal s) where
  causal_boot : (o : Operation) → Differ (booting s n o).issued → IsNextAfter [] o → Causal (booting s n o)
  causal_boot o d next =
      let r : IssuedAll s.issued [] (o ∷ []) = issue_all s.issued [] (o ∷ []) d h.issues (closed_none s.issued) (next, tt) in
      record {
        nodes = nodes_with (booting s n o).issued s.node n (Some (record { inc = o.dot.origin.inc; operations = o ∷ [] })) r.set (λ m. closed_more s.issued (issues_of [] (o ∷ [])) (held_by (s.node m)) d (h.nodes m));
        copies = copies_more s.issued (issues_of [] (o ∷ [])) s.copies d h.copies;
        issues = r.issues;
      }

  causal_issue : (more : List Operation) → Differ (issuing s n more).issued → AreNext (held_by (s.node n)) more → Causal (issuing s n more)
  causal_issue more d next =
      let os = held_by (s.node n) in
      let r : IssuedAll s.issued os more = issue_all s.issued os more d h.issues (h.nodes n) next in
      record {
        nodes = nodes_with (issuing s n more).issued s.node n (united (s.node n) more) (closed_issued s.issued (s.node n) more r) (λ m. closed_more s.issued (issues_of os more) (held_by (s.node m)) d (h.nodes m));
        copies = copies_more s.issued (issues_of os more) s.copies d h.copies;
        issues = r.issues;
      }

  causal_off : Causal (going_off s n)
  causal_off = record { nodes = nodes_with s.issued s.node n None (closed_none s.issued) h.nodes; copies = h.copies; issues = h.issues }

  causal_ship : (m : Message) → Causal (record { node = s.node; issued = s.issued; copies = s.copies ++ copied_by (s.node n) n m })
  causal_ship m = record { nodes = h.nodes; copies = copies_append s.issued s.copies (copied_by (s.node n) n m) h.copies (copies_shipped s.issued (s.node n) n m (h.nodes n)); issues = h.issues }

  brought_closed : (what : What) (reply : Reply) → IsNoHanding what (Ok reply) → ClosedSet s.issued (brought_to s n what)
  brought_closed (Deliver k) reply unhanded = closed_copied s.issued n (s.node n) (counted s.copies k) (λ c e. copies_counted s.issued s.copies k c h.copies e)
  brought_closed (Hand k) reply unhanded = absurd unhanded
  brought_closed _ reply unhanded = closed_none s.issued

  causal_hear : (what : What) (reply : Reply) → IsNoHanding what (Ok reply) → Causal (record { node = with_set s.node n (united (s.node n) (brought_to s n what)); issued = s.issued; copies = s.copies })
  causal_hear what reply unhanded = record {
    nodes = nodes_with s.issued s.node n (united (s.node n) (brought_to s n what)) (closed_united s.issued (s.node n) (brought_to s n what) (h.nodes n) (brought_closed what reply unhanded)) h.nodes;
    copies = h.copies;
    issues = h.issues;
  }

-- ---- the operations that transitions issue
-- if neither of two causes holds, the first doesn't
pub first_free : (a b : Option Refusal) → otherwise a b ≡ None → a ≡ None
first_free None b e = refl
first_free (Some why) b e = cc

issued_apart : (w : ModelWorld) (s : SetWorld) → Sound w s → Differ s.issued
issued_apart w s h = subst DistinctDots (sym h.issued) h.distinct

module _ (t : Table) (w : ModelWorld) (s : SetWorld) (n : NodeId) (h : Sound w s) (c : Causal s) where
  causal_told : (r : ModelRunning) → (w.node n).running ≡ Some r → (command : Command) → refusal_of_command t r.origin (joined r.log) command ≡ None →
      let o = next_operation (joined r.log) r.origin (act_of t (joined r.log) command) in
      Differ (issuing s n (o ∷ [])).issued → Causal (issuing s n (o ∷ []))
  causal_told r on command none d =
      let held = held_at w s n r h on in
      let o = next_operation (joined r.log) r.origin (act_of t (joined r.log) command) in
      let next : IsNextAfter held.set.operations o = after_command t r.origin (joined r.log) command held.set.operations held.state none in
      causal_issue s n c (o ∷ []) d (subst (λ (x : Option NodeSet). AreNext (held_by x) (o ∷ [])) (sym held.is) (next, tt))

  causal_claims : (r : ModelRunning) → (w.node n).running ≡ Some r → (noted : List (Option Noted)) (now : ℕ) → refusal_to_tick t (running_shown t r) now ≡ None →
      let more = (sweep_of t r.origin noted now (joined r.log)).ops in
      DotsDetermine (w.operations ++ more) → Differ (issuing s n more).issued → Causal (issuing s n more)
  causal_claims r on noted now none agree d =
      let held = held_at w s n r h on in
      let os = held.set.operations in
      let more = (sweep_of t r.origin noted now (joined r.log)).ops in
      let all = w.operations ++ more in
      let inside : AreOperationsOf (os ++ more) all = Within-append os more all (λ o i. In-append_left o w.operations more (held.ok.within o i)) (λ o i. In-append_right o w.operations more i) in
      let claims = claims_are t r.origin noted now (joined r.log) (leaves_room t (running_shown t r) now none) in
      let next : AreNext os more = after_claims t r.origin (joined r.log) os more held.state (Agree-within (os ++ more) all inside agree) claims in
      causal_issue s n c more d (subst (λ (x : Option NodeSet). AreNext (held_by x) more) (sym held.is) next)

  causal_tick : (what : What) (r : ModelRunning) → (w.node n).running ≡ Some r → (note : Note) (noted : List (Option Noted)) (now : ℕ) (opening : Opening) → refusal_to_tick t (running_shown t r) now ≡ None →
      let transition = ticks_by opening t (running_shown t r) noted now in
      let d : ModelNode = record { last = (w.node n).last; running = goes_on r note transition } in
      Sound (answered_by w n d (Ok transition.reply)).world (set_step s n what (Ok transition.reply)) → Causal (set_step s n what (Ok transition.reply))
  causal_tick what r on note noted now Shut none next = c
  causal_tick what r on note noted now GiveUp none next = causal_off s n c
  causal_tick what r on note noted now Opened none next =
      causal_claims r on noted now none (DistinctDots-agree _ next.distinct) (issued_apart _ (issuing s n (sweep_of t r.origin noted now (joined r.log)).ops) next)

  -- an accepted event
  causal_ok : (what : What) (e : Event) (running : Option ModelRunning) → refusal_of t (shown t (w.node n)) e ≡ None → (w.node n).running ≡ running →
      let step = accepted t n (w.node n).last running e in
      let by = answered_by w n step.node step.answer in
      Sound by.world (set_step s n what by.answer) → IsNoHanding what by.answer → Causal (set_step s n what by.answer)
  causal_ok what e None none on next unhanded = let own : Origin = own_origin n ((w.node n).last + 1) in causal_boot s n c (up own) (issued_apart _ (booting s n (up own)) next) (up_next own)
  causal_ok what (Boot now) (Some r) none on next unhanded = causal_hear s n c what _ unhanded
  causal_ok what Crash (Some r) none on next unhanded = causal_off s n c
  causal_ok what (Commanded command) (Some r) none on next unhanded =
      let o = next_operation (joined r.log) r.origin (act_of t (joined r.log) command) in
      let free : refusal_of_command t r.origin (joined r.log) command ≡ None = first_free (refusal_of_command t r.origin (joined r.log) command) _ (ap (λ (l : Option ModelRunning). refusal_by t (w.node n).last (option_map (running_shown t) l) (Commanded command)) (sym on) ∙ none) in
      causal_told r on command free (issued_apart _ (issuing s n (o ∷ [])) next)
  causal_ok what (Tick now) (Some r) none on next unhanded =
      let free : refusal_to_tick t (running_shown t r) now ≡ None = ap (λ (l : Option ModelRunning). refusal_by t (w.node n).last (option_map (running_shown t) l) (Tick now)) (sym on) ∙ none in
      causal_tick what r on (note_of (joined r.log) (Tick now)) (waits_of t (note_of (joined r.log) (Tick now) ∷ r.notes)) now (opening_at t (running_shown t r) now) free next
  causal_ok what (Ship to) (Some r) none on next unhanded = causal_ship s n c _
  causal_ok what (Hear m) (Some r) none on next unhanded = causal_hear s n c what _ unhanded
  causal_ok what (HearOp o) (Some r) none on next unhanded = causal_hear s n c what _ unhanded

-- ---- one event of the world
abbrev CausalBy : ModelWorld → SetWorld → NodeId → What → ModelWorld → Answer → Type 0
CausalBy w s n what next a = Sound next (set_step s n what a) → IsNoHanding what a → Causal (set_step s n what a)

causal_by : (t : Table) (w : ModelWorld) (s : SetWorld) (n : NodeId) (what : What) → Sound w s → Causal s →
    let by = happens_by t w n (event_of w.operations w.messages what) in
    CausalBy w s n what by.world by.answer
causal_by t w s n what h c =
    elim (event_of w.operations w.messages what) as (λ r. CausalBy w s n what (happens_by t w n r).world (happens_by t w n r).answer) [
      | Err fault ↦ λ _ _. c
      | Ok e ↦ elim (refusal_of t (shown t (w.node n)) e) as (λ r. refusal_of t (shown t (w.node n)) e ≡ r → let st = step_by r t n (w.node n) e in let by = answered_by w n st.node st.answer in CausalBy w s n what by.world by.answer) [
        | Some why ↦ λ _ _ _. c
        | None ↦ λ none. causal_ok t w s n h c what e (w.node n).running none refl
      ] refl
    ]

causal_happens : (t : Table) (w : ModelWorld) (s : SetWorld) (e : WorldEvent) → Sound w s → Causal s → CausalBy w s e.node e.what (happens t w e).world (happens t w e).answer
causal_happens t w s e h c =
    elim (nat_lt e.node.0 w.count) as (λ b. let by = cond b (happens_by t w e.node (event_of w.operations w.messages e.what)) (record { world = w; answer = Err NoSuchNode }) in CausalBy w s e.node e.what by.world by.answer) [
      | true ↦ causal_by t w s e.node e.what h c
      | false ↦ λ _ _. c
    ]

causal_step : (t : Table) (w : ModelWorld) (s : SetWorld) (e : WorldEvent) (a : Answer) (next : ModelWorld) → Sound w s → Causal s → Step w (happens t w e) a next → IsNoHanding e.what a → Causal (set_step s e.node e.what a)
causal_step t w s e a next h c (inl d) unhanded = subst (λ x. IsNoHanding e.what x → Causal (set_step s e.node e.what x)) (sym d.answered) (causal_happens t w s e h c (sound_happens t w s e h)) unhanded
causal_step t w s e a next h c (inr l) unhanded = subst (λ x. Causal (set_step s e.node e.what x)) (sym l.answered) c

-- after every run of the model world in which no operation is handed
pub causal_run : (t : Table) (w : ModelWorld) (s : SetWorld) (es : List WorldEvent) (answers : List Answer) (final : ModelWorld) → Sound w s → Causal s → Run t w es answers final → HandsNothing es answers → Causal (set_run s es answers)
causal_run t w s [] answers final h c r unhanded = c
causal_run t w s (e ∷ es) [] final h c r unhanded = c
causal_run t w s (e ∷ es) (a ∷ answers) final h c run unhanded =
    let r = run_first t w e es a answers final run in
    causal_run t r.0 (set_step s e.node e.what a) es answers final (sound_step t w s e a r.0 h r.1.0) (causal_step t w s e a r.0 h c r.1.0 unhanded.0) r.1.1 unhanded.1

-- the world at the start
pub causal_start : Causal no_sets
causal_start = record { nodes = λ n. closed_none []; copies = tt; issues = λ i m. absurd m }
