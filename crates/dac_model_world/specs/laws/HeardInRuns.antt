-- A running node hears what fits it, unless an allocation fails or its delta numbers are used up.
use Rattle.std.proofs.Common.{◌≡◌, ◌⊎◌, ◌<◌, ◌≤◌, ℕ, zero, suc, ◌+◌, ◌-◌, Bool, true, false, not, cond, ◌&&◌, List, [], ◌∷◌, length, Option, Some, None, Result, Ok, Err, inl, inr, nat_eq, refl, sym, ap, subst, ◌∙◌, true≢false, ltb-true, arith}
use Rattle.dac_model_world.specs.laws.Common.{nat_lt, option_map, option_map_or, slice_get, exact_unsigned_eq, and_parts, MAX_COUNTER, NodeId, Origin, Operation, meaning_of, is_below, Table, WorldEvent, What, Deliver, Hand, Message, content_of, Event, Hear, HearOp, Reply, Booted, Crashed, GaveUp, Shipped, Heard, first, Refusal, OnSelf, NotForMe, DotsUsedUp, WorldFault, NoSuchNode, ModelNode, ModelRunning, joined, shown, running_shown, refusal_of, refusal_by, overflows, Stepped, model_step, step_by, accepted, transition_on, step_accepted, some_same, ModelWorld, happens, happens_by, answered_by, event_of, handed_by, Step, Run, start, SetWorld, NodeSet, Issue, Copy, with_set, united, booting, issuing, brought_to, set_step, no_sets, state_by, deltas_with}
use Rattle.dac_messages.specs.declared.reply.Reply.TheVariants.{Issued, Ticked, Held}
use Rattle.dac_model_node.specs.EventRefusals.{too_many_deltas}
use Rattle.dac_model_world.specs.ModelWorld.{heard_by, counted}
use Rattle.dac_model_world.specs.Fits.{RunsIn, IsCopyFor, Fits, IsHeard, IsFull, no_deltas, HearsWhatFits, HearsAllThatFits}
use Rattle.dac_model_world.specs.laws.OneNode.{state_in}
use Rattle.dac_model_world.specs.laws.Runs.{run_first}
use Rattle.dac_model_world.specs.laws.Covers.{Seen}
use Rattle.dac_model_world.specs.laws.Carried.{none_some, CopyOk, CopiesOk}
use Rattle.dac_model_world.specs.laws.Sound.{Answer, Sound, seen, held_at, sound_step, sound_start}
use Rattle.dac_model_world.specs.laws.FewInRuns.{IsFew, few_step}

-- ---- only nodes of the configuration run
-- nodes with sets have numbers below the count
abbrev pub Inside : ℕ → SetWorld → Type 0
Inside count s = (n : NodeId) → RunsIn s n → nat_lt n.0 count ≡ true

-- replacing the set of node n
inside_with : (count : ℕ) (n : NodeId) (held : Option NodeSet) (s : SetWorld) (issued : List Issue) (copies : List Copy) → nat_lt n.0 count ≡ true → Inside count s → Inside count (record { node = with_set s.node n held; issued = issued; copies = copies })
inside_with count n held s issued copies here h m =
    elim (nat_eq m.0 n.0) as (λ b. nat_eq m.0 n.0 ≡ b → (set : NodeSet) × (cond b held (s.node m) ≡ Some set) → nat_lt m.0 count ≡ true) [
      | true ↦ λ t _. ap (λ k. nat_lt k count) (exact_unsigned_eq m.0 n.0 t) ∙ here
      | false ↦ λ _ runs. h m runs
    ] refl

inside_reply : (count : ℕ) (s : SetWorld) (n : NodeId) (what : What) (reply : Reply) → nat_lt n.0 count ≡ true → Inside count s → Inside count (set_step s n what (Ok reply))
inside_reply count s n what (Booted o) here h = inside_with count n (Some (record { inc = o.dot.origin.inc; operations = o ∷ [] })) s (booting s n o).issued s.copies here h
inside_reply count s n what Crashed here h = inside_with count n None s s.issued s.copies here h
inside_reply count s n what (Issued o) here h = inside_with count n (united (s.node n) (o ∷ [])) s (issuing s n (o ∷ [])).issued s.copies here h
inside_reply count s n what (Ticked ops passed) here h = inside_with count n (united (s.node n) ops) s (issuing s n ops).issued s.copies here h
inside_reply count s n what Held here h = h
inside_reply count s n what GaveUp here h = inside_with count n None s s.issued s.copies here h
inside_reply count s n what (Shipped m) here h = h
inside_reply count s n what (Heard fresh) here h = inside_with count n (united (s.node n) (brought_to s n what)) s s.issued s.copies here h

module _ (t : Table) (w : ModelWorld) (s : SetWorld) (h : Inside w.count s) where
  inside_answered : (n : NodeId) (what : What) (d : ModelNode) (a : Result Reply Refusal) → nat_lt n.0 w.count ≡ true → Inside (answered_by w n d a).world.count (set_step s n what (answered_by w n d a).answer)
  inside_answered n what d (Err why) here = h
  inside_answered n what d (Ok reply) here = inside_reply w.count s n what reply here h

  inside_by : (n : NodeId) (what : What) (r : Result Event WorldFault) → nat_lt n.0 w.count ≡ true → Inside (happens_by t w n r).world.count (set_step s n what (happens_by t w n r).answer)
  inside_by n what (Err fault) here = h
  inside_by n what (Ok e) here = inside_answered n what (model_step t n (w.node n) e).node (model_step t n (w.node n) e).answer here

  pub inside_happens : (e : WorldEvent) → Inside (happens t w e).world.count (set_step s e.node e.what (happens t w e).answer)
  inside_happens e =
      elim (nat_lt e.node.0 w.count) as (λ b. nat_lt e.node.0 w.count ≡ b → let by = cond b (happens_by t w e.node (event_of w.operations w.messages e.what)) (record { world = w; answer = Err NoSuchNode }) in Inside by.world.count (set_step s e.node e.what by.answer)) [
        | true ↦ λ here. inside_by e.node e.what (event_of w.operations w.messages e.what) here
        | false ↦ λ _. h
      ] refl

inside_step : (t : Table) (w : ModelWorld) (s : SetWorld) (e : WorldEvent) (a : Answer) (next : ModelWorld) → Inside w.count s → Step w (happens t w e) a next → Inside next.count (set_step s e.node e.what a)
inside_step t w s e a next h (inl d) = subst (λ (p : ModelWorld × Answer). Inside p.0.count (set_step s e.node e.what p.1)) (λ i. (sym d.went_on i, sym d.answered i)) (inside_happens t w s h e)
inside_step t w s e a next h (inr l) = subst (λ (p : ModelWorld × Answer). Inside p.0.count (set_step s e.node e.what p.1)) (λ i. (sym l.stayed i, sym l.answered i)) h

-- ---- a running node and a delivery to it
-- the message of a copy
copy_there : (ops : List Operation) (v : NodeId → Seen) (ms : List Message) (cs : List Copy) (k : ℕ) (c : Copy) → CopiesOk ops v ms cs → slice_get cs k ≡ Some c → (m : Message) × ((slice_get ms k ≡ Some m) × CopyOk ops v m c)
copy_there ops v ms [] k c h e = none_some e
copy_there ops v [] (d ∷ cs) k c h e = absurd h
copy_there ops v (m ∷ ms) (d ∷ cs) zero c h e = (m, (refl, subst (CopyOk ops v m) (some_same d c e) h.0))
copy_there ops v (m ∷ ms) (d ∷ cs) (suc k) c h e = copy_there ops v ms cs k c h.1 e

copy_counted : (ops : List Operation) (v : NodeId → Seen) (ms : List Message) (cs : List Copy) (k : ℕ) (c : Copy) → CopiesOk ops v ms cs → counted cs k ≡ Some c → (m : Message) × ((counted ms k ≡ Some m) × CopyOk ops v m c)
copy_counted ops v ms cs k c h e =
    elim (nat_eq k 0) as (λ b. cond b None (slice_get cs (k - 1)) ≡ Some c → (m : Message) × ((cond b None (slice_get ms (k - 1)) ≡ Some m) × CopyOk ops v m c)) [
      | true ↦ λ p. none_some p
      | false ↦ λ p. copy_there ops v ms cs (k - 1) c h p
    ] e

for_it : (a b c d : Bool) → a ≡ false → b ≡ true → c ≡ true → first ((a, OnSelf) ∷ (not (b && c), NotForMe) ∷ (d, DotsUsedUp) ∷ []) ≡ first ((d, DotsUsedUp) ∷ [])
for_it a b c d p q r = λ i. first ((p i, OnSelf) ∷ (not (q i && r i), NotForMe) ∷ (d, DotsUsedUp) ∷ [])

swept : (b : Bool) → not b ≡ true → b ≡ false
swept true h = absurd (true≢false (sym h))
swept false h = refl

right : (a b : Bool) → (a && b) ≡ true → b ≡ true
right true b h = h
right false b h = absurd (true≢false (sym h))

-- the delivery is heard, or the node's delta numbers are used up
abbrev pub Outcome : ℕ → Answer → Type 0
Outcome count a = IsHeard a ⊎ IsFull count a

module _ (t : Table) (w : ModelWorld) (s : SetWorld) (h : Sound w s) (deltas : NodeId → ℕ) (few : IsFew deltas w) (n : NodeId) where
  run_there : RunsIn s n → (r : ModelRunning) × ((w.node n).running ≡ Some r)
  run_there runs = by_run (w.node n).running refl ((h.nodes n).state ∙ ap (option_map state_by) runs.1)
    where
      by_run : (running : Option ModelRunning) → (w.node n).running ≡ running → option_map state_in running ≡ Some (state_by runs.0) → (r : ModelRunning) × ((w.node n).running ≡ Some r)
      by_run None on e = none_some e
      by_run (Some r) on e = (r, on)

  -- an accepted event whose result says that it was heard
  heard_free : (e : Event) (r : ModelRunning) (fresh : Bool) → (w.node n).running ≡ Some r → refusal_of t (shown t (w.node n)) e ≡ None → (transition_on t r e).reply ≡ Heard fresh → IsHeard (happens_by t w n (Ok e)).answer
  heard_free e r fresh on none is = (fresh, ap (λ (st : Stepped). (answered_by w n st.node st.answer).answer) (step_accepted t n (w.node n) e none ∙ ap (λ running. accepted t n (w.node n).last running e) on) ∙ ap (λ reply. Ok reply) is)

  -- a node without numbers left has as many deltas as there are numbers
  is_full : (r : ModelRunning) → (w.node n).running ≡ Some r → too_many_deltas (running_shown t r) 1 ≡ true → MAX_COUNTER ≤ deltas n
  is_full r on e = at_most MAX_COUNTER (length r.log) (deltas n) (ltb-true MAX_COUNTER (length r.log + 1) e) (few n r on)
    where
      at_most : (m c k : ℕ) → m < c + 1 → c ≤ k → m ≤ k
      at_most m c k a b = omega arith

  -- an event refused only if no number is left
  heard_or_full : (e : Event) (r : ModelRunning) (fresh : Bool) (full : Bool) → (w.node n).running ≡ Some r → (full ≡ true → too_many_deltas (running_shown t r) 1 ≡ true) → refusal_of t (shown t (w.node n)) e ≡ first ((full, DotsUsedUp) ∷ []) → (transition_on t r e).reply ≡ Heard fresh →
      Outcome (deltas n) (happens_by t w n (Ok e)).answer
  heard_or_full e r fresh true on lacks why is = inr (ap (λ x. let st = step_by x t n (w.node n) e in (answered_by w n st.node st.answer).answer) why, is_full r on (lacks refl))
  heard_or_full e r fresh false on lacks free is = inl (heard_free e r fresh on free is)

  -- a message for the node is refused only if it overflows
  message_free : (k : ℕ) (fits : IsCopyFor s n k) (m : Message) (r : ModelRunning) → (w.node n).running ≡ Some r → CopyOk w.operations (seen w.node s.node h.entries) m fits.copy →
      refusal_of t (shown t (w.node n)) (Hear m) ≡ first ((overflows (running_shown t r) (content_of m.body), DotsUsedUp) ∷ [])
  message_free k fits m r on copy =
      let last = (w.node n).last in
      let held = held_at w s n r h on in
      let all : (nat_eq m.to.0 n.0 && (not (nat_eq m.from.node.0 n.0) && option_map_or (λ inc. nat_eq inc last) m.only true)) ≡ true =
      (λ i. nat_eq (copy.to i).0 n.0 && (not (nat_eq (copy.from i).0 n.0) && option_map_or (λ inc. nat_eq inc (sym held.inc i)) (copy.only i) true)) ∙ fits.fits held.set held.is in
      let to = and_parts (nat_eq m.to.0 n.0) (not (nat_eq m.from.node.0 n.0) && option_map_or (λ inc. nat_eq inc last) m.only true) all in
      let rest = and_parts (not (nat_eq m.from.node.0 n.0)) (option_map_or (λ inc. nat_eq inc last) m.only true) to.1 in
      ap (λ running. refusal_by t last (option_map (running_shown t) running) (Hear m)) on
      ∙ (ap (λ (q : Origin). first ((nat_eq m.from.node.0 q.node.0, OnSelf) ∷ (not (nat_eq m.to.0 q.node.0 && option_map_or (λ inc. nat_eq inc q.inc) m.only true), NotForMe) ∷ (overflows (running_shown t r) (content_of m.body), DotsUsedUp) ∷ [])) held.mine
      ∙ for_it (nat_eq m.from.node.0 n.0) (nat_eq m.to.0 n.0) (option_map_or (λ inc. nat_eq inc last) m.only true) (overflows (running_shown t r) (content_of m.body)) (swept (nat_eq m.from.node.0 n.0) rest.0) to.0 rest.1)

  heard_by_node : (what : What) → RunsIn s n → Fits s n what → Outcome (deltas n) (happens_by t w n (event_of w.operations w.messages what)).answer
  heard_by_node (Deliver k) runs fits =
      let running = run_there runs in
      let m = copy_counted w.operations (seen w.node s.node h.entries) w.messages s.copies k fits.copy h.copies fits.there in
      subst (λ o. Outcome (deltas n) (happens_by t w n (heard_by o)).answer) (sym m.1.0)
      (heard_or_full (Hear m.0) running.0 (not (is_below (content_of m.0.body) (joined running.0.log))) (overflows (running_shown t running.0) (content_of m.0.body)) running.1 (right (not (is_below (content_of m.0.body) (joined running.0.log))) (too_many_deltas (running_shown t running.0) 1)) (message_free k fits m.0 running.0 running.1 m.1.1) refl)
  heard_by_node (Hand k) runs fits =
      let running = run_there runs in
      subst (λ o. Outcome (deltas n) (happens_by t w n (handed_by o)).answer) (sym (ap (λ os. counted os k) (sym h.issued) ∙ fits.1))
      (heard_or_full (HearOp fits.0) running.0 (not (is_below (meaning_of (fits.0 ∷ [])) (joined running.0.log))) (overflows (running_shown t running.0) (meaning_of (fits.0 ∷ []))) running.1 (right (not (is_below (meaning_of (fits.0 ∷ [])) (joined running.0.log))) (too_many_deltas (running_shown t running.0) 1)) (ap (λ r. refusal_by t (w.node n).last (option_map (running_shown t) r) (HearOp fits.0)) running.1) refl)
  heard_by_node _ runs fits = absurd fits

-- ---- one event of the world, and every run
pub heard_happens : (t : Table) (w : ModelWorld) (s : SetWorld) (deltas : NodeId → ℕ) (e : WorldEvent) → Sound w s → IsFew deltas w → Inside w.count s → RunsIn s e.node → Fits s e.node e.what → Outcome (deltas e.node) (happens t w e).answer
heard_happens t w s deltas e h few inside runs fits =
    subst (λ b. Outcome (deltas e.node) (cond b (happens_by t w e.node (event_of w.operations w.messages e.what)) (record { world = w; answer = Err NoSuchNode })).answer) (sym (inside e.node runs))
    (heard_by_node t w s h deltas few e.node e.what runs fits)

heard_step : (t : Table) (w : ModelWorld) (s : SetWorld) (deltas : NodeId → ℕ) (e : WorldEvent) (a : Answer) (next : ModelWorld) → Sound w s → IsFew deltas w → Inside w.count s → Step w (happens t w e) a next → HearsWhatFits s deltas e a
heard_step t w s deltas e a next h few inside (inl d) runs fits = elim (subst (Outcome (deltas e.node)) (sym d.answered) (heard_happens t w s deltas e h few inside runs fits)) [ inl x ↦ inl x | inr y ↦ inr (inr y) ]
heard_step t w s deltas e a next h few inside (inr l) runs fits = inr (inl l.answered)

heard_along : (t : Table) (w : ModelWorld) (s : SetWorld) (deltas : NodeId → ℕ) (es : List WorldEvent) (answers : List Answer) (final : ModelWorld) → Sound w s → IsFew deltas w → Inside w.count s → Run t w es answers final → HearsAllThatFits s deltas es answers
heard_along t w s deltas [] answers final h few inside r = tt
heard_along t w s deltas (e ∷ es) [] final h few inside r = tt
heard_along t w s deltas (e ∷ es) (a ∷ answers) final h few inside run =
    let r = run_first t w e es a answers final run in
    (heard_step t w s deltas e a r.0 h few inside r.1.0, heard_along t r.0 (set_step s e.node e.what a) (deltas_with deltas e.node a) es answers final (sound_step t w s e a r.0 h r.1.0) (few_step t w deltas e a r.0 few r.1.0) (inside_step t w s e a r.0 inside r.1.0) r.1.1)

-- running nodes hear what fits them in every run of the model world from the start
pub heard_run : (t : Table) (es : List WorldEvent) (answers : List Answer) (final : ModelWorld) → Run t (start t) es answers final → HearsAllThatFits no_sets no_deltas es answers
heard_run t es answers final r = heard_along t (start t) no_sets no_deltas es answers final (sound_start t) (λ n q e. none_some e) (λ n runs. none_some runs.1) r
