-- The program's world follows the model worlds that show as it.
use Rattle.std.proofs.Common.{◌≡◌, ℕ, ◌<◌, Bool, true, false, cond, inl, inr, List, ◌∷◌, ◌++◌, Option, Some, None, Result, Ok, Err, length, nat_eq, refl, sym, ap, subst, ◌∙◌, lt-ltb, eq-eqb, get_or, true≢false}
use Rattle.dac_model_world.specs.laws.Common.{nat_lt, IfSome, option_map, slice_get, exact_unsigned_eq, false_from_ne_true, NodeId, Table, Opening, Shut, Noted, waits_of, WorldEvent, Event, Crash, Tick, Reply, Crashed, Refusal, Off, NoMemory, WorldFault, NoSuchNode, Refused, NodeValue, RunningValue, ModelNode, ModelRunning, joined, shown, running_shown, refusal_of, refusal_by, ticks_by, opening_at, note_of, model_step, step_by, accepted, Stepped, AcceptedAs, left_by, reply_by, WorldValue, ModelWorld, Shows, happens, happens_by, answered_by, event_of, numbered, with_node, issued_by, shipped_by, out_of_memory, Step, Follows, Goes, step_accepted, some_same}
use Rattle.std.specs.Prelude.{unwrap_or, IsOk, IfOk, IfErr, OnErr}
use Rattle.std.proofs.lemmas.Option.{slice_get_read}
use Rattle.dac_model_node.specs.Hearing.{HearsExactly}
use Rattle.dac_model_node.specs.Accepted.{AreNewest, IsNotingBy}
use Rattle.dac_model_world.specs.ModelWorld.{WorldStepped}
use Rattle.dac_model_world.specs.AtNode.{HearsAt, HearsIn, HappensAt}
use Rattle.dac_model_node.specs.laws.Heard.{hears_exactly}
use Rattle.dac_model_node.specs.laws.Steps.{shown_accepted, answer_accepted}

-- the node of a world that shows as v
node_shown : (t : Table) (w : ModelWorld) (v : WorldValue) → Shows t w v → (me : NodeId) (old : NodeValue) → me.0 < length v.nodes → slice_get v.nodes me.0 ≡ Some old → shown t (w.node me) ≡ old
node_shown t w v h me old lt is =
    let inside : nat_lt me.0 w.count ≡ true = ap (nat_lt me.0) (sym h.count) ∙ lt-ltb me.0 (length v.nodes) lt in
    some_same (shown t (w.node me)) old (sym (ap (λ b. cond b (Some (shown t (w.node me))) None) inside) ∙ (sym (h.nodes me.0) ∙ is))

-- the world's step, from the node's
by_step : (t : Table) (w : ModelWorld) (me : NodeId) (e : Event) (s : Stepped) → model_step t me (w.node me) e ≡ s → happens_by t w me (Ok e) ≡ answered_by w me s.node s.answer
by_step t w me e s is = ap (λ (x : Stepped). answered_by w me x.node x.answer) is

is_ok_accepted : (t : Table) (w : ModelWorld) (me : NodeId) (last : ℕ) (running : Option ModelRunning) (e : Event) → IsOk (answered_by w me (accepted t me last running e).node (accepted t me last running e).answer).answer
is_ok_accepted t w me last None e = refl
is_ok_accepted t w me last (Some r) e = refl

-- the node at which an event happens, in the program's world
pub record Here (v : WorldValue) (me : NodeId) (old : NodeValue) : Type 0 where
  pub inside : me.0 < length v.nodes
  pub there : slice_get v.nodes me.0 ≡ Some old

refusal_same : (t : Table) (w : ModelWorld) (v : WorldValue) → Shows t w v → (me : NodeId) (e : Event) (old : NodeValue) → Here v me old → refusal_of t (shown t (w.node me)) e ≡ refusal_of t old e
refusal_same t w v h me e old here = ap (λ x. refusal_of t x e) (node_shown t w v h me old here.inside here.there)

-- only a crash has this reply
tick_stays : (opening : Opening) (t : Table) (r : RunningValue) (noted : List (Option Noted)) (now : ℕ) → ◌≡◌ {A = Result Reply Refusal} (Ok (ticks_by opening t r noted now).reply) (Ok Crashed) → ⊥
tick_stays Shut t r noted now h = cc
tick_stays _ t r noted now h = cc

only_crash : (t : Table) (me : NodeId) (last : ℕ) (running : Option ModelRunning) (e : Event) → (accepted t me last running e).answer ≡ Ok Crashed → e ≡ Crash
only_crash t me last None e h = cc
only_crash t me last (Some r) Crash h = refl
only_crash t me last (Some r) (Tick now) h = absurd (tick_stays (opening_at t (running_shown t r) now) t (running_shown t r) (waits_of t (note_of (joined r.log) (Tick now) ∷ r.notes)) now h)
only_crash t me last (Some r) _ h = cc

crash_at_node : (w : ModelWorld) (me : NodeId) (d : ModelNode) (a : Result Reply Refusal) → (answered_by w me d a).answer ≡ Ok Crashed → a ≡ Ok Crashed
crash_at_node w me d (Ok reply) h = cc
crash_at_node w me d (Err why) h = cc

-- an accepted event with this reply turns the node off
pub crash_goes_off : (t : Table) (me : NodeId) (old : NodeValue) (e : Event) (new : NodeValue) (own : Reply) → AcceptedAs t me old e new own → own ≡ Crashed → new.running ≡ None
crash_goes_off t me old e new own p is = ap (λ (x : NodeValue). x.running) p.left ∙ by_run old.last old.running e (sym p.reply ∙ is)
  where
    by_run : (last : ℕ) (running : Option RunningValue) (e : Event) → reply_by t me last running p.noted e ≡ Crashed → (left_by t me last running p.noted e).running ≡ None
    by_run last None e h = cc
    by_run last (Some r) Crash h = refl
    by_run last (Some r) (Tick now) h = absurd (tick_stays (opening_at t r now) t r p.noted now (ap (λ x. Ok x) h))
    by_run last (Some r) _ h = cc

-- an allocation failed for an accepted event that is no crash
lacked_follows : (t : Table) (v : WorldValue) (me : NodeId) (e : Event) (old : NodeValue) → Here v me old → refusal_of t old e ≡ None → (e ≡ Crash → ⊥) → Follows t v (λ w. happens_by t w me (Ok e)) out_of_memory v
lacked_follows t v me e old here none stays = record {
  each = λ w h.
      let st = step_accepted t me (w.node me) e (refusal_same t w v h me e old here ∙ none) in (
        w,
        (
          inr (record {
            answered = λ _. out_of_memory;
            accepted = subst (λ (s : WorldStepped). IsOk s.answer) (sym (by_step t w me e _ st)) (is_ok_accepted t w me (w.node me).last (w.node me).running e);
            wants = λ is.
                let step = accepted t me (w.node me).last (w.node me).running e in
                stays (only_crash t me (w.node me).last (w.node me).running e (crash_at_node w me step.node step.answer (sym (ap (λ (s : WorldStepped). s.answer) (by_step t w me e _ st)) ∙ is)));
            stayed = refl;
          }),
          h,
        ),
      );
}

refused_follows : (t : Table) (v : WorldValue) (me : NodeId) (e : Event) (old : NodeValue) (why : Refusal) → Here v me old → refusal_of t old e ≡ Some why → Follows t v (λ w. happens_by t w me (Ok e)) (Err (Refused why)) v
refused_follows t v me e old why here some = record {
  each = λ w h.
      let st : model_step t me (w.node me) e ≡ record { node = w.node me; answer = Err why } = ap (λ r. step_by r t me (w.node me) e) (refusal_same t w v h me e old here ∙ some) in
      let all = by_step t w me e (record { node = w.node me; answer = Err why }) st in
      (w, (inl (record { answered = ap (λ (s : WorldStepped). s.answer) (sym all); went_on = ap (λ (s : WorldStepped). s.world) (sym all) }), h));
}

-- a refusal, or a failed allocation; a crash can only be refused because the node is off
err_follows : (t : Table) (v : WorldValue) (me : NodeId) (e : Event) (old : NodeValue) (why : Refusal) → Here v me old → why ≡ unwrap_or (refusal_of t old e) NoMemory → (e ≡ Crash → why ≡ Off) →
    Follows t v (λ w. happens_by t w me (Ok e)) (Err (Refused why)) v
err_follows t v me e old why here is crash =
    elim (refusal_of t old e) as (λ r. refusal_of t old e ≡ r → why ≡ unwrap_or r NoMemory → Follows t v (λ w. happens_by t w me (Ok e)) (Err (Refused why)) v) [
      | None ↦ λ none f. subst (λ x. Follows t v (λ w. happens_by t w me (Ok e)) (Err (Refused x)) v) (sym f) (lacked_follows t v me e old here none (λ c. not_off (sym f ∙ crash c)))
      | Some r ↦ λ some f. subst (λ x. Follows t v (λ w. happens_by t w me (Ok e)) (Err (Refused x)) v) (sym f) (refused_follows t v me e old r here some)
    ] refl is
  where
    not_off : NoMemory ≡ Off → ⊥
    not_off p = cc

-- the node's place after a change
pub changed_at : (nodes : List NodeValue) (me : NodeId) (old : NodeValue) (become : NodeValue → NodeValue) → slice_get nodes me.0 ≡ Some old → (x : NodeValue) → x ≡ become old → (n : ℕ) →
    cond (nat_eq n me.0) (option_map become (slice_get nodes n)) (slice_get nodes n) ≡ cond (nat_eq n me.0) (Some x) (slice_get nodes n)
changed_at nodes me old become there x is n =
    elim (nat_eq n me.0) as (λ b. nat_eq n me.0 ≡ b → cond b (option_map become (slice_get nodes n)) (slice_get nodes n) ≡ cond b (Some x) (slice_get nodes n)) [
      | true ↦ λ e. ap (λ k. option_map become (slice_get nodes k)) (exact_unsigned_eq n me.0 e) ∙ (ap (option_map become) there ∙ ap (λ y. Some y) (sym is))
      | false ↦ λ e. refl
    ] refl

-- the world after an accepted event
ok_follows : (t : Table) (v u : WorldValue) (me : NodeId) (e : Event) (old : NodeValue) (become : NodeValue → NodeValue) (own : Reply) (reply : Reply) → Here v me old → AcceptedAs t me old e (become old) own → Goes v me become own reply u → Follows t v (λ w. happens_by t w me (Ok e)) (Ok reply) u
ok_follows t v u me e old become own reply here p goes = record {
  each = λ w h.
      let d = w.node me in
      let same = node_shown t w v h me old here.inside here.there in
      let st = step_accepted t me d e (refusal_same t w v h me e old here ∙ p.accepted) in
      let noting : IsNotingBy t (shown t d).running p.noted e = subst (λ (x : NodeValue). IsNotingBy t x.running p.noted e) (sym same) p.noting in
      let newest = subst (λ (x : NodeValue). IfSome x.running (λ (r : RunningValue). AreNewest r.kept)) (sym same) p.newest in
      let answer : (accepted t me d.last d.running e).answer ≡ Ok reply = answer_accepted t me d.last d.running p.noted e newest noting ∙ ap (λ r. Ok r) (ap (λ (x : NodeValue). reply_by t me x.last x.running p.noted e) same ∙ sym p.reply ∙ sym goes.reply) in
      let new : ModelNode = (accepted t me d.last d.running e).node in
      let shows : shown t new ≡ become old = shown_accepted t me d.last d.running p.noted e newest noting ∙ (ap (λ (x : NodeValue). left_by t me x.last x.running p.noted e) same ∙ sym p.left) in
      let all : happens_by t w me (Ok e) ≡ answered_by w me new (Ok reply) = by_step t w me e _ st ∙ ap (answered_by w me new) answer in
      let next : ModelWorld = record { count = w.count; node = with_node w.node me new; operations = w.operations ++ issued_by reply; messages = w.messages ++ shipped_by reply } in (
        next,
        (
          inl (record { answered = ap (λ (s : WorldStepped). s.answer) (sym all); went_on = ap (λ (s : WorldStepped). s.world) (sym all) }),
          record {
            count = goes.nodes.count ∙ h.count;
            nodes = λ n. goes.nodes.each n ∙ (changed_at v.nodes me old become here.there (shown t new) shows n ∙ (ap (cond (nat_eq n me.0) (Some (shown t new))) (h.nodes n) ∙ at w new n (ap (nat_lt me.0) (sym h.count) ∙ lt-ltb me.0 (length v.nodes) here.inside)));
            operations = goes.operations ∙ (λ i. h.operations i ++ issued_by (sym goes.reply i));
            messages = goes.messages ∙ (λ i. h.messages i ++ shipped_by (sym goes.reply i));
          },
        ),
      );
}
  where
    pick : (w : ModelWorld) (new : ModelNode) (n : NodeId) (b c : Bool) → (b ≡ true → c ≡ true) → cond b (Some (shown t new)) (cond c (Some (shown t (w.node n))) None) ≡ cond c (Some (shown t (cond b new (w.node n)))) None
    pick w new n true true f = refl
    pick w new n true false f = absurd (true≢false (sym (f refl)))
    pick w new n false c f = refl

    at : (w : ModelWorld) (new : ModelNode) (n : ℕ) → nat_lt me.0 w.count ≡ true → cond (nat_eq n me.0) (Some (shown t new)) (cond (nat_lt n w.count) (Some (shown t (w.node (numbered n)))) None) ≡ cond (nat_lt n w.count) (Some (shown t (with_node w.node me new (numbered n)))) None
    at w new n inside = pick w new (numbered n) (nat_eq n me.0) (nat_lt n w.count) (λ x. ap (λ k. nat_lt k w.count) (exact_unsigned_eq n me.0 x) ∙ inside)

-- ---- from a node's event to the world's
-- the same step, of the world that shows as v
follows_by : (t : Table) (v u : WorldValue) (answer : Result Reply WorldFault) (f g : ModelWorld → WorldStepped) → ((w : ModelWorld) → Shows t w v → f w ≡ g w) → Follows t v f answer u → Follows t v g answer u
follows_by t v u answer f g same h = record {
  each = λ w s. let r = h.each w s in (r.0, (subst (λ x. Step w x answer r.0) (same w s) r.1.0, r.1.1));
}

-- an event at an existing node
happens_at : (t : Table) (v : WorldValue) (e : WorldEvent) → e.node.0 < length v.nodes → (w : ModelWorld) → Shows t w v → happens_by t w e.node (event_of v.operations v.messages e.what) ≡ happens t w e
happens_at t v e lt w h =
    let inside : nat_lt e.node.0 w.count ≡ true = ap (nat_lt e.node.0) (sym h.count) ∙ lt-ltb e.node.0 (length v.nodes) lt in
    (λ i. happens_by t w e.node (event_of (h.operations i) (h.messages i) e.what))
    ∙ ap (λ b. cond b (happens_by t w e.node (event_of w.operations w.messages e.what)) (record { world = w; answer = Err NoSuchNode })) (sym inside)

-- the node that the code reads
pub node_at : (v : WorldValue) (me : NodeId) (x : NodeValue) → me.0 < length v.nodes → x ≡ get_or v.nodes me.0 x → Here v me x
node_at v me x lt read = record { inside = lt; there = slice_get_read v.nodes (length v.nodes) me.0 x refl lt read }

-- a prepared change is applied, or fails with `NoMemory` and changes nothing
gone_follows : (t : Table) (v u : WorldValue) (me : NodeId) (e : Event) (old : NodeValue) (become : NodeValue → NodeValue) (own : Reply) (answer : Result Reply WorldFault) → Here v me old → AcceptedAs t me old e (become old) own →
    IfOk answer (λ reply. Goes v me become own reply u) → IfErr answer (λ fault. Err fault ≡ out_of_memory) → IfErr answer (λ _. own ≡ Crashed → ⊥) → OnErr answer (u ≡ v) → Follows t v (λ w. happens_by t w me (Ok e)) answer u
gone_follows t v u me e old become own (Ok reply) here p goes lacked stays same = ok_follows t v u me e old become own reply here p goes
gone_follows t v u me e old become own (Err fault) here p goes lacked stays same =
    subst (λ x. Follows t v (λ w. happens_by t w me (Ok e)) x u) (sym lacked)
    (subst (λ x. Follows t v (λ w. happens_by t w me (Ok e)) out_of_memory x) (sym same) (lacked_follows t v me e old here p.accepted (λ c. stays (p.reply ∙ crashes c))))
  where
    -- an accepted crash happens at a running node
    at_run : (last : ℕ) (running : Option RunningValue) → refusal_by t last running Crash ≡ None → reply_by t me last running p.noted Crash ≡ Crashed
    at_run last None none = cc
    at_run last (Some r) none = refl

    crashes : e ≡ Crash → reply_by t me old.last old.running p.noted e ≡ Crashed
    crashes c = ap (reply_by t me old.last old.running p.noted) c ∙ at_run old.last old.running (ap (refusal_by t old.last old.running) (sym c) ∙ p.accepted)

-- ---- the effect of an event at a node
-- the node has heard what it had and what the event brings
goes_hears : (t : Table) (v u : WorldValue) (me : NodeId) (e : Event) (old : NodeValue) (become : NodeValue → NodeValue) (own : Reply) (reply : Reply) → Here v me old → AcceptedAs t me old e (become old) own → Goes v me become own reply u → HearsAt v me e reply u
goes_hears t v u me e old become own reply here p goes = record {
  hears = λ x y was is.
      let before : old ≡ x = some_same old x (sym here.there ∙ was) in
      let after : become old ≡ y = some_same (become old) y (sym (goes.nodes.each me.0 ∙ (changed_at v.nodes me old become here.there (become old) refl me.0 ∙ ap (λ b. cond b (Some (become old)) (slice_get v.nodes me.0)) (eq-eqb me.0 me.0 refl))) ∙ is) in
      subst (λ (z : NodeValue × (Reply × NodeValue)). HearsExactly z.0 e z.1.0 z.1.1) (λ i. (before i, ((sym p.reply ∙ sym goes.reply) i, (sym p.left ∙ after) i)))
      (hears_exactly t me old.last old.running p.noted e p.accepted);
  others = λ n other. goes.nodes.each n ∙ ap (λ b. cond b (option_map become (slice_get v.nodes n)) (slice_get v.nodes n)) (false_from_ne_true (nat_eq n me.0) (λ e. other (exact_unsigned_eq n me.0 e)));
}

same_ok : {X Y : Type 0} (x y : X) → ◌≡◌ {A = Result X Y} (Ok x) (Ok y) → x ≡ y
same_ok x y e = cc

no_ok : {X Y P : Type 0} (y : Y) (x : X) → ◌≡◌ {A = Result X Y} (Err y) (Ok x) → P
no_ok y x e = cc

-- the effect of a prepared change
pub happens_gone : (t : Table) (v u : WorldValue) (me : NodeId) (e : Event) (old : NodeValue) (become : NodeValue → NodeValue) (own : Reply) (answer : Result Reply WorldFault) → Here v me old → AcceptedAs t me old e (become old) own →
    IfOk answer (λ reply. Goes v me become own reply u) → IfErr answer (λ fault. Err fault ≡ out_of_memory) → IfErr answer (λ _. own ≡ Crashed → ⊥) → OnErr answer (u ≡ v) → HappensAt t v me (Ok e) answer u
happens_gone t v u me e old become own answer here p goes lacked stays same = record {
  follows = gone_follows t v u me e old become own answer here p goes lacked stays same;
  hears = λ reply is x at. subst (λ y. HearsAt v me y reply u) (same_ok e x at) (goes_hears t v u me e old become own reply here p (subst (λ a. IfOk a (λ r. Goes v me become own r u)) is goes));
}

-- the effect of a refusal
pub happens_refused : (t : Table) (v : WorldValue) (me : NodeId) (e : Event) (old : NodeValue) (why : Refusal) → Here v me old → why ≡ unwrap_or (refusal_of t old e) NoMemory → (e ≡ Crash → why ≡ Off) → HappensAt t v me (Ok e) (Err (Refused why)) v
happens_refused t v me e old why here is crash = record {
  follows = err_follows t v me e old why here is crash;
  hears = λ reply no. no_ok (Refused why) reply no;
}

-- ---- from the node to the world
-- an event of the world is the one at its node
pub follows_in : (t : Table) (v u : WorldValue) (e : WorldEvent) (answer : Result Reply WorldFault) → e.node.0 < length v.nodes → HappensAt t v e.node (event_of v.operations v.messages e.what) answer u → Follows t v (λ w. happens t w e) answer u
follows_in t v u e answer lt h = follows_by t v u answer (λ w. happens_by t w e.node (event_of v.operations v.messages e.what)) (λ w. happens t w e) (happens_at t v e lt) h.follows

pub hears_in : (t : Table) (v u : WorldValue) (e : WorldEvent) (answer : Result Reply WorldFault) → HappensAt t v e.node (event_of v.operations v.messages e.what) answer u → IfOk answer (λ reply. HearsIn v e reply u)
hears_in t v u e answer h = by_answer answer refl
  where
    by_answer : (a : Result Reply WorldFault) → answer ≡ a → IfOk a (λ reply. HearsIn v e reply u)
    by_answer (Ok reply) is = h.hears reply is
    by_answer (Err fault) is = tt
