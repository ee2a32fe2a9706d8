-- Issued operations and shipped messages of each run are in form: a loop over events.
use Rattle.std.proofs.Common.{◌≡◌, ℕ, ◌<◌, ◌≤◌, ◌+◌, ◌-◌, Bool, true, false, cond, nat_eq, List, [], ◌∷◌, ◌++◌, length, Option, Some, None, Ok, Err, refl, sym, ap, subst, ◌∙◌, inl, inr, arith, leb-false, leb-true, ltb-true}
use Rattle.dac_in_form.proofs.Common.{nat_lt, AllByRecursion, slice_get, option_map, exact_unsigned_eq, MAX_COUNTER, NodeId, node_cmp, Origin, Operation, StateValue, IsOperationOf, Table, node_count, Note, waits_of, IsOrigin, Two, WorldEvent, Message, Event, Boot, Crash, Hear, none_is, ModelNode, ModelRunning, joined, running_shown, shown, refusal_on, refusal_of, Transition, note_of, step_by, up, comes_up, transition_on, some_same, ModelWorld, InEachRun, Run, start, happens, answered_by, shipped_by, Agree-within, DistinctDots-agree, AreInForm, HeldAreInForm, RunIsInForm}
use Rattle.std.specs.Prelude.{nat_le}
use Rattle.std.specs.FinMap as map
use Rattle.std.proofs.lemmas.List.{length-append}
use Rattle.dac_base.specs.declared.limits.TheConstants.{MAX_INCARNATION}
use Rattle.dac_meaning.specs.laws.Members.{In-append_left, In-append_right, In-append_cases}
use Rattle.dac_events.specs.declared.What.{What}
use Rattle.dac_events.specs.declared.refusal.Refusal.TheVariants.{IncarnationsUsedUp}
use Rattle.dac_events.specs.declared.world_fault.WorldFault.TheVariants.{NoSuchNode}
use Rattle.dac_model_node.specs.Effect.{issued_by}
use Rattle.dac_model_node.specs.EventRefusals.{refusal_off, refusal_by}
use Rattle.dac_model_node.specs.Transitions.{moment_of}
use Rattle.dac_model_node.specs.Step.{accepted, goes_on}
use Rattle.dac_model_node.specs.laws.Numbers.{fits}
use Rattle.dac_model_node.specs.laws.Writing.{no_off}
use Rattle.dac_model_world.specs.ModelWorld.{Step, happens_by, event_of, with_node, counted}
use Rattle.dac_model_world.specs.SetWorld.{SetWorld, set_step, no_sets}
use Rattle.dac_model_world.specs.laws.Carried.{none_some}
use Rattle.dac_model_world.specs.laws.OneNode.{own_origin}
use Rattle.dac_model_world.specs.laws.Runs.{run_first}
use Rattle.dac_model_world.specs.laws.Sound.{Answer, Sound, held_at, hears, sound_step, sound_start}
use Rattle.dac_in_form.proofs.MayIssue.{MayIssue, MeaningsMayIssue}
use Rattle.dac_in_form.proofs.Claims.{one_more}
use Rattle.dac_in_form.proofs.Heads.{IsHead, AreGot, heads_more, head_at}
use Rattle.dac_in_form.proofs.Transitions.{none_issued, transition_is}

-- ---- the invariant

-- the running node's incarnation is in form, its boot was issued, and its numbers are in range
record IsRunning (t : Table) (ops : List Operation) (n : NodeId) (last : ℕ) (r : ModelRunning) : Type 0 where
  origin : IsOrigin Two (node_count t) (own_origin n last)
  booted : IsOperationOf (up (own_origin n last)) ops
  count : length r.log ≤ MAX_COUNTER
  got : AreGot t r.peers

abbrev IsNode : Table → List Operation → NodeId → ModelNode → Type 0
IsNode t ops n d = (r : ModelRunning) → d.running ≡ Some r → IsRunning t ops n d.last r

record IsWorld (t : Table) (w : ModelWorld) : Type 0 where
  count : w.count ≡ node_count t
  nodes : (n : NodeId) → IsNode t w.operations n (w.node n)
  operations : AreInForm t w.operations
  messages : AllByRecursion (IsHead t) w.messages

-- ---- unchanged parts

node_more : (t : Table) (ops more : List Operation) (n : NodeId) (d : ModelNode) → IsNode t ops n d → IsNode t (ops ++ more) n d
node_more t ops more n d is r on =
    let was = is r on in
    record { origin = was.origin; booted = In-append_left (up (own_origin n d.last)) ops more was.booted; count = was.count; got = was.got }

operations_more : (t : Table) (ops more : List Operation) → AreInForm t ops → AreInForm t more → AreInForm t (ops ++ more)
operations_more t ops more old new o i = elim (In-append_cases o ops more i) [ inl a ↦ old o a | inr b ↦ new o b ]

same_node : (m n : NodeId) → nat_eq m.0 n.0 ≡ true → m ≡ n
same_node m n e = ap (λ k. record { 0 = k }) (exact_unsigned_eq m.0 n.0 e)

-- the number after one that isn't the last
next_at_most : (m n : ℕ) → n < m → n + 1 ≤ m
next_at_most m n h = omega arith

-- the incarnation of an accepted boot is in form
boot_at_most : (last : ℕ) (e : Event) → refusal_off last e ≡ None → last + 1 ≤ MAX_INCARNATION
boot_at_most last (Boot now) none = next_at_most MAX_INCARNATION last (leb-false MAX_INCARNATION last (none_is ((nat_le MAX_INCARNATION last, IncarnationsUsedUp) ∷ []) none).0)
boot_at_most last Crash none = no_off none
boot_at_most last _ none = no_off none

-- the log and the peer table after a transition
goes_as : (r : ModelRunning) (note : Note) (transition : Transition) (q : ModelRunning) → goes_on r note transition ≡ Some q → (q.log ≡ r.log ++ transition.adds) × (q.peers ≡ transition.peers)
goes_as r note transition q e = by_off transition.goes_off _ refl refl e
  where
    by_off : (off : Bool) (after : ModelRunning) → after.log ≡ r.log ++ transition.adds → after.peers ≡ transition.peers → cond off None (Some after) ≡ Some q → (q.log ≡ r.log ++ transition.adds) × (q.peers ≡ transition.peers)
    by_off true after log peers p = none_some p
    by_off false after log peers p =
        let same = sym (some_same after q p) in
        (ap (λ (x : ModelRunning). x.log) same ∙ log, ap (λ (x : ModelRunning). x.peers) same ∙ peers)

-- the message of a number is in form, except for its content
counted_head : (t : Table) (ms : List Message) (k : ℕ) (m : Message) → AllByRecursion (IsHead t) ms → counted ms k ≡ Some m → IsHead t m
counted_head t ms k m all e =
    elim (nat_eq k 0) as (λ b. cond b None (slice_get ms (k - 1)) ≡ Some m → IsHead t m) [
      | true ↦ λ p. none_some p
      | false ↦ λ p. head_at t ms (k - 1) m all p
    ] e

-- ---- one event

module _ (means : MeaningsMayIssue) (t : Table) (w : ModelWorld) (s : SetWorld) (h : Sound w s) (f : IsWorld t w) (n : NodeId) where
  -- node n becomes d, issues qs and ships ms
  world_next : (d : ModelNode) (qs : List Operation) (ms : List Message) → IsNode t (w.operations ++ qs) n d → AreInForm t qs → AllByRecursion (IsHead t) ms
      → IsWorld t (record { count = w.count; node = with_node w.node n d; operations = w.operations ++ qs; messages = w.messages ++ ms })
  world_next d qs ms here issued shipped = record {
    count = f.count;
    nodes = λ m. elim (nat_eq m.0 n.0) as (λ b. nat_eq m.0 n.0 ≡ b → IsNode t (w.operations ++ qs) m (cond b d (w.node m))) [
      | true ↦ λ same. subst (λ k. IsNode t (w.operations ++ qs) k d) (sym (same_node m n same)) here
      | false ↦ λ other. node_more t w.operations qs m (w.node m) (f.nodes m)
    ] refl;
    operations = operations_more t w.operations qs f.operations issued;
    messages = heads_more t w.messages ms f.messages shipped;
  }

  -- the node comes up
  boot_is : (now : ℕ) → n.0 < node_count t → (w.node n).last + 1 ≤ MAX_INCARNATION →
      let own = own_origin n ((w.node n).last + 1) in
      let d : ModelNode = record { last = (w.node n).last + 1; running = Some (comes_up own now) } in
      IsWorld t (record { count = w.count; node = with_node w.node n d; operations = w.operations ++ up own ∷ []; messages = w.messages ++ [] })
  boot_is now there most =
      let inc = (w.node n).last + 1 in
      let own = own_origin n inc in
      let origin : IsOrigin Two (node_count t) own = record { node = there; inc = (from_one (w.node n).last, most) } in
      let running : IsRunning t (w.operations ++ up own ∷ []) n inc (comes_up own now) = record {
        origin = origin;
        booted = In-append_right (up own) w.operations (up own ∷ []) (inl refl);
        count = leb-true 1 MAX_COUNTER refl;
        got = λ node g e. none_some (sym (map.get-empty node_cmp node) ∙ e);
      } in
      world_next (record { last = inc; running = Some (comes_up own now) }) (up own ∷ []) []
      (λ r on. subst (IsRunning t (w.operations ++ up own ∷ []) n inc) (some_same (comes_up own now) r on) running)
      (one_more t (up own) [] (record { dot = record { origin = origin; first = leb-true 1 1 refl; last = leb-true 1 MAX_COUNTER refl }; kind = leb-true 1 7 refl; act = tt; sound = refl }) (none_issued t))
      tt
    where
      from_one : (n : ℕ) → 1 ≤ n + 1
      from_one n = omega arith

  module _ (r : ModelRunning) (on : (w.node n).running ≡ Some r) where
    abbrev was : IsRunning t w.operations n (w.node n).last r
    was = f.nodes n r on

    -- the state of a running node is the meaning of issued operations, one of which is its boot
    may_issue : MayIssue t r.origin (joined r.log)
    may_issue =
        let held = held_at w s n r h on in
        let own = own_origin n (w.node n).last in
        let os = held.set.operations in
        let agree = Agree-within os w.operations held.ok.within (DistinctDots-agree w.operations h.distinct) in
        subst (λ (p : Origin × StateValue). MayIssue t p.0 p.1) (λ i. (sym held.mine i, sym held.state i))
        (means t os agree (λ o i. f.operations o (held.ok.within o i)) own was.origin (held.ok.own (up own) was.booted refl))

    -- the node makes a transition
    transition_next : (e : Event) → refusal_on t (running_shown t r) e ≡ None → ((m : Message) → e ≡ Hear m → IsHead t m) →
        let transition = transition_on t r e in
        let d : ModelNode = record { last = (w.node n).last; running = goes_on r (note_of (joined r.log) e) transition } in
        IsWorld t (record { count = w.count; node = with_node w.node n d; operations = w.operations ++ issued_by transition.reply; messages = w.messages ++ shipped_by transition.reply })
    transition_next e none comes =
        let transition = transition_on t r e in
        let note = note_of (joined r.log) e in
        let is = transition_is t r may_issue was.count was.got e none comes in
        let room = fits t (running_shown t r) (waits_of t (note ∷ r.notes)) was.count e none in
        world_next (record { last = (w.node n).last; running = goes_on r note transition }) (issued_by transition.reply) (shipped_by transition.reply)
        (λ q went.
        let as_was = goes_as r note transition q went in
        record {
          origin = was.origin;
          booted = In-append_left (up (own_origin n (w.node n).last)) w.operations (issued_by transition.reply) was.booted;
          count = few (length q.log) (length r.log) (length transition.adds) MAX_COUNTER (ap length as_was.0 ∙ length-append r.log transition.adds) room;
          got = subst (AreGot t) (sym as_was.1) is.got;
        })
        is.issued
        is.shipped
      where
        few : (a b c m : ℕ) → a ≡ b + c → b + c ≤ m → a ≤ m
        few a b c m e k = omega arith

  -- an accepted event
  world_ok : (what : What) (e : Event) (running : Option ModelRunning) → n.0 < node_count t → event_of w.operations w.messages what ≡ Ok e → refusal_of t (shown t (w.node n)) e ≡ None → (w.node n).running ≡ running →
      let step = accepted t n (w.node n).last running e in
      IsWorld t (answered_by w n step.node step.answer).world
  world_ok what e None there is none on =
      boot_is (moment_of e) there (boot_at_most (w.node n).last e (ap (λ (l : Option ModelRunning). refusal_by t (w.node n).last (option_map (running_shown t) l) e) (sym on) ∙ none))
  world_ok what e (Some r) there is none on =
      transition_next r on e (ap (λ (l : Option ModelRunning). refusal_by t (w.node n).last (option_map (running_shown t) l) e) (sym on) ∙ none)
      (λ m heard. let comes = hears w.operations w.messages what m (is ∙ ap (λ (x : Event). Ok x) heard) in counted_head t w.messages comes.number m f.messages comes.there)

  world_by : (what : What) → n.0 < node_count t → IsWorld t (happens_by t w n (event_of w.operations w.messages what)).world
  world_by what there =
      elim (event_of w.operations w.messages what) as (λ r. event_of w.operations w.messages what ≡ r → IsWorld t (happens_by t w n r).world) [
        | Err fault ↦ λ _. f
        | Ok e ↦ λ is. elim (refusal_of t (shown t (w.node n)) e) as (λ r. refusal_of t (shown t (w.node n)) e ≡ r → IsWorld t (answered_by w n (step_by r t n (w.node n) e).node (step_by r t n (w.node n) e).answer).world) [
          | Some why ↦ λ _. f
          | None ↦ λ none. world_ok what e (w.node n).running there is none refl
        ] refl
      ] refl

-- ---- runs

world_happens : (means : MeaningsMayIssue) (t : Table) (w : ModelWorld) (s : SetWorld) (e : WorldEvent) → Sound w s → IsWorld t w → IsWorld t (happens t w e).world
world_happens means t w s e h f =
    elim (nat_lt e.node.0 w.count) as (λ b. nat_lt e.node.0 w.count ≡ b → IsWorld t (cond b (happens_by t w e.node (event_of w.operations w.messages e.what)) (record { world = w; answer = Err NoSuchNode })).world) [
      | true ↦ λ below. world_by means t w s h f e.node e.what (subst (λ count. e.node.0 < count) f.count (ltb-true e.node.0 w.count below))
      | false ↦ λ _. f
    ] refl

world_step : (means : MeaningsMayIssue) (t : Table) (w : ModelWorld) (s : SetWorld) (e : WorldEvent) (a : Answer) (next : ModelWorld) → Sound w s → IsWorld t w → Step w (happens t w e) a next → IsWorld t next
world_step means t w s e a next h f (inl done) = subst (IsWorld t) (sym done.went_on) (world_happens means t w s e h f)
world_step means t w s e a next h f (inr lacked) = subst (IsWorld t) (sym lacked.stayed) f

world_run : (means : MeaningsMayIssue) (t : Table) (w : ModelWorld) (s : SetWorld) (es : List WorldEvent) (answers : List Answer) (final : ModelWorld) → Sound w s → IsWorld t w → Run t w es answers final → IsWorld t final
world_run means t w s [] [] final h f run = subst (IsWorld t) (sym run.1) f
world_run means t w s [] (a ∷ answers) final h f run = absurd run.0
world_run means t w s (e ∷ es) [] final h f run = absurd run.0
world_run means t w s (e ∷ es) (a ∷ answers) final h f run =
    let first = run_first t w e es a answers final run in
    world_run means t first.0 (set_step s e.node e.what a) es answers final (sound_step t w s e a first.0 h first.1.0) (world_step means t w s e a first.0 h f first.1.0) first.1.1

-- the initial world
world_start : (t : Table) → IsWorld t (start t)
world_start t = record { count = refl; nodes = λ n r e. none_some e; operations = none_issued t; messages = tt }

pub runs_are_in_form : MeaningsMayIssue → InEachRun HeldAreInForm → InEachRun RunIsInForm
runs_are_in_form means held t events answers v ran =
    let all = world_run means t (start t) no_sets events answers ran.final (sound_start t) (world_start t) ran.run in
    let issued : AreInForm t v.operations = λ o i. all.operations o (subst (IsOperationOf o) ran.shows.operations i) in
    let parts = held t events answers v ran in
    record {
      issued = issued;
      states = λ small. parts.states small issued;
      shipped = λ small k m there fit.
          let head = head_at t ran.final.messages k m all.messages (ap (λ ms. slice_get ms k) (sym ran.shows.messages) ∙ there) in
          record { from = head.from; to = head.to; only = head.only; up_to = head.up_to; ack = head.ack; body = parts.bodies small issued k m there fit };
    }
