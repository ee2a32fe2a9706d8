-- The effect of one event of the model world on its members: a tick, a ship or a delivery, or none.
use Rattle.std.proofs.Common.{◌≡◌, ℕ, ◌-◌, ◌<◌, ◌≤◌, Bool, true, false, not, cond, List, [], ◌∷◌, ◌++◌, length, drop, map as list_map, Option, Some, None, Ok, Err, nat_eq, zero, suc, refl, sym, ap, subst, ◌∙◌, arith, inl, inr}
use Rattle.dac_settle.specs.laws.Common.{nat_lt, NodeId, Origin, Operation, meaning_of, is_below, Table, Opening, Shut, Opened, GiveUp, waits_of, WorldEvent, What, Hand, Message, Boot, Crash, Hear, HearOp, Heard, Sweep, ModelNode, ModelRunning, joined, shown, running_shown, refusal_of, message_of, ticks_by, opening_at, note_of, step_by, WorldFault, NoSuchNode, ModelWorld, WorldStepped, happens, happens_by, answered_by, event_of, SetWorld, NodeSet, copied_by, set_step, DistinctDots-agree, Sound, held_at, InCopies, Member, Members, with_member, own_of, ticked, IsTick, MemberEvent, member_by, members_of, InRound}
use Rattle.std.specs.Option.{option_map}
use Rattle.std.specs.List.{slice_get}
use Rattle.dac_events.specs.declared.What.TheVariants.{Boot as Boots, Crash as Crashes, Command as Tells, Tick as Ticking, Ship as Ships, Deliver as Delivering}
use Rattle.dac_messages.specs.Bodies.{content_of}
use Rattle.dac_messages.specs.declared.event.Event.{Event as NodeEvent}
use Rattle.dac_messages.specs.declared.event.Event.TheVariants.{Command as Commanded, Tick as Ticks, Ship as ShipsTo}
use Rattle.dac_messages.specs.declared.reply.Reply.TheVariants.{Ticked, Shipped}
use Rattle.dac_events.specs.declared.refusal.Refusal.TheVariants.{NoMemory}
use Rattle.dac_ticks.specs.Again.{tick_of}
use Rattle.dac_model_world.specs.EventRefusals.{refusal_by}
use Rattle.dac_model_world.specs.Transitions.{hears, hears_message, ships, looks_after}
use Rattle.dac_model_world.specs.Step.{goes_on, accepted}
use Rattle.dac_events.specs.declared.world_fault.WorldFault.TheVariants.{Refused}
use Rattle.dac_model_world.specs.ModelWorld.{counted, with_node, Step}
use Rattle.dac_model_world.specs.SetWorld.{Copy, with_set, united, copied_to, brought_to, issuing}
use Rattle.dac_model_world.specs.Uniting.{Unites}
use Rattle.dac_model_world.specs.laws.Operations.{Agree-within}
use Rattle.dac_model_world.specs.laws.Carried.{none_some}
use Rattle.dac_model_world.specs.laws.Sound.{Answer, no_message, no_operation}
use Rattle.dac_settle.specs.Settling.{sweep_at, holding, Run, Ticks as TicksIn}
use Rattle.dac_settle.specs.Settling.MemberEvent.{Tick, Ship, Deliver}
use Rattle.dac_settle.specs.WorldRounds.{IsLateBy, IsTicked}
use Rattle.dac_settle.specs.laws.AnyPlacement.{one, same_node}

-- ---- the copies of a round

-- the copies shipped after the first b
abbrev pub since : ℕ → List Copy → List (List Operation)
since b cs = list_map (λ (c : Copy). c.operations) (drop b cs)

since_more : (b : ℕ) (cs : List Copy) (c : Copy) → b ≤ length cs → since b (cs ++ c ∷ []) ≡ since b cs ++ c.operations ∷ []
since_more zero [] c le = refl
since_more zero (d ∷ cs) c le = ap (λ os. d.operations ∷ os) (since_more zero cs c (omega arith))
since_more (suc b) [] c le = absurd (omega arith)
since_more (suc b) (d ∷ cs) c le = since_more b cs c (omega arith)

pub since_all : (cs : List Copy) → since (length cs) cs ≡ []
since_all [] = refl
since_all (c ∷ cs) = since_all cs

in_since : (b j : ℕ) (cs : List Copy) (c : Copy) → b ≤ j → slice_get cs j ≡ Some c → InCopies c.operations (since b cs)
in_since b j [] c le e = none_some e
in_since zero zero (d ∷ cs) c le e = inl (ap (λ (x : Copy). x.operations) (sym (one e)))
in_since zero (suc j) (d ∷ cs) c le e = inr (in_since zero j cs c (omega arith) e)
in_since (suc b) zero (d ∷ cs) c le e = absurd (omega arith)
in_since (suc b) (suc j) (d ∷ cs) c le e = in_since b j cs c (omega arith) e

-- the k-th copy was shipped after the first b
counted_since : (b k : ℕ) (cs : List Copy) (c : Copy) → b < k → counted cs k ≡ Some c → InCopies c.operations (since b cs)
counted_since b k cs c lt e = elim (nat_eq k 0) as (λ z. cond z None (slice_get cs (k - 1)) ≡ Some c → InCopies c.operations (since b cs)) [
  | true ↦ λ e. none_some e
  | false ↦ λ e. in_since b (k - 1) cs c (omega arith) e
] e

-- ---- members

-- the members of the two worlds, in a round that began after b copies
abbrev pub seen_in : ℕ → ModelWorld → SetWorld → Members
seen_in b w s = record { node = members_of w s; copies = since b s.copies }

-- replacing a node and its set replaces their member
put_members : (w : ModelWorld) (s : SetWorld) (n : NodeId) (d : ModelNode) (held : Option NodeSet) (k : Member) → member_by d.running held ≡ Some k
    → (m : NodeId) → member_by (with_node w.node n d m).running (with_set s.node n held m) ≡ with_member (members_of w s) n k m
put_members w s n d held k is m = by_test (nat_eq m.0 n.0)
  where
    by_test : (b : Bool) → member_by (cond b d (w.node m)).running (cond b held (s.node m)) ≡ cond b (Some k) (members_of w s m)
    by_test true = is
    by_test false = refl

-- replacing a node by one with the same member leaves all members
keep_members : (w : ModelWorld) (s : SetWorld) (n : NodeId) (d : ModelNode) → member_by d.running (s.node n) ≡ members_of w s n → (m : NodeId) → member_by (with_node w.node n d m).running (s.node m) ≡ members_of w s m
keep_members w s n d is m = by_test (nat_eq m.0 n.0) refl
  where
    by_test : (b : Bool) → nat_eq m.0 n.0 ≡ b → member_by (cond b d (w.node m)).running (s.node m) ≡ members_of w s m
    by_test true e = subst (λ k. member_by d.running (s.node k) ≡ members_of w s k) (sym (same_node e)) is
    by_test false e = refl

module _ (t : Table) (b : ℕ) (w : ModelWorld) (s : SetWorld) where
  -- At most one event of the members leads from one pair of worlds to the next. If the result is a tick of node n, that
  -- event is one too.
  abbrev pub Goes : NodeId → Answer → ModelWorld → SetWorld → Type 0
  Goes n a next later = (es : List MemberEvent) × Run t (seen_in b w s) es (seen_in b next later) × (IsTicked a → TicksIn n es)

  -- an event that fits a round leads there
  abbrev pub GoesBy : NodeId → What → WorldStepped → Type 0
  GoesBy n what by = InRound t b w n what by.answer → Unites s n what by.answer → Goes n by.answer by.world (set_step s n what by.answer)

  stays : (n : NodeId) (fault : WorldFault) → Goes n (Err fault) w s
  stays n fault = ([], refl, λ i. absurd i)

  module _ (n : NodeId) (h : Sound w s) (r : ModelRunning) (on : (w.node n).running ≡ Some r) where
    -- the event is a tick at this moment
    ticks_what : (now : ℕ) (what : What) → event_of w.operations w.messages what ≡ Ok (Ticks now) → what ≡ Ticking now
    ticks_what now (Boots k) e = cc
    ticks_what now Crashes e = cc
    ticks_what now (Tells c) e = cc
    ticks_what now (Ticking k) e = let same : k ≡ now = cc in ap (λ i. Ticking i) same
    ticks_what now (Ships to) e = cc
    ticks_what now (Delivering k) e = no_message (counted w.messages k) (Ticks now) (λ l p. cc) e
    ticks_what now (Hand k) e = no_operation (counted w.operations k) (Ticks now) (λ x p. cc) e

    abbrev sweep : ℕ → Sweep
    sweep now = tick_of t r.origin r.notes now (joined r.log)

    goes_tick : (what : What) (now : ℕ) → what ≡ Ticking now →
        let d : ModelNode = record { last = (w.node n).last; running = goes_on r (note_of (joined r.log) (Ticks now)) (looks_after (running_shown t r) now (sweep now)) } in
        (sweep now).passed ≡ [] → IsLateBy t (w.node n).running what → Goes n (Ok (Ticked (sweep now).ops (sweep now).passed)) (answered_by w n d (Ok (Ticked (sweep now).ops (sweep now).passed))).world (issuing s n (sweep now).ops)
    goes_tick what now is none late =
        let held = held_at w s n r h on in
        let note = note_of (joined r.log) (Ticks now) in
        let d : ModelNode = record { last = (w.node n).last; running = goes_on r note (looks_after (running_shown t r) now (sweep now)) } in
        let me : Member = record { inc = r.origin.inc; held = held.set.operations; notes = r.notes } in
        let own : own_of n me ≡ r.origin = λ i. record { node = sym (ap (λ (o : Origin). o.node) held.mine) i; inc = r.origin.inc } in
        let same : sweep_at t n me now ≡ sweep now = λ i. tick_of t (own i) r.notes now (sym held.state i) in
        let k = ticked me now (sweep_at t n me now).ops in
        let put : member_by d.running (united (s.node n) (sweep now).ops) ≡ Some k =
        (λ i. member_by d.running (united (held.is i) (sweep now).ops))
        ∙ (λ i. Some (record { inc = r.origin.inc; held = held.set.operations ++ (sym same i).ops; notes = record { state = held.state i; moment = now } ∷ r.notes })) in
        let tick : IsTick t n me now = record {
          agree = Agree-within held.set.operations w.operations held.ok.within (DistinctDots-agree w.operations h.distinct);
          late = subst (λ (p : Option ModelRunning × What). IsLateBy t p.0 p.1) (λ i. (on i, is i)) late;
          passed = ap (λ (v : Sweep). v.passed) same ∙ none;
        } in
        let next : Members = record { node = with_member (members_of w s) n k; copies = since b s.copies } in (
          Tick n now ∷ [],
          (
            next,
            (me, (λ i. member_by (on i) (held.is i)), tick, refl),
            (λ i. record { node = λ m. put_members w s n d (united (s.node n) (sweep now).ops) k put m i; copies = since b s.copies }),
          ),
          λ i. inl (now, refl),
        )

    goes_ship : (to : NodeId) → b ≤ length s.copies →
        let m = message_of (running_shown t r) to in
        let d : ModelNode = record { last = (w.node n).last; running = goes_on r (note_of (joined r.log) (ShipsTo to)) (ships (running_shown t r) to) } in
        Goes n (Ok (Shipped m)) (answered_by w n d (Ok (Shipped m))).world (record { node = s.node; issued = s.issued; copies = s.copies ++ copied_by (s.node n) n m })
    goes_ship to le =
        let held = held_at w s n r h on in
        let m : Message = message_of (running_shown t r) to in
        let d : ModelNode = record { last = (w.node n).last; running = goes_on r (note_of (joined r.log) (ShipsTo to)) (ships (running_shown t r) to) } in
        let me : Member = record { inc = r.origin.inc; held = held.set.operations; notes = r.notes } in
        let here : members_of w s n ≡ Some me = λ i. member_by (on i) (held.is i) in
        let copies : since b (s.copies ++ copied_by (s.node n) n m) ≡ since b s.copies ++ held.set.operations ∷ [] =
        ap (λ o. since b (s.copies ++ copied_by o n m)) held.is ∙ since_more b s.copies (record { from = n; to = m.to; only = m.only; operations = held.set.operations }) le in
        let next : Members = record { node = members_of w s; copies = since b s.copies ++ held.set.operations ∷ [] } in (
          Ship n ∷ [],
          (
            next,
            (me, here, refl),
            (λ i. record { node = λ k. keep_members w s n d ((λ j. member_by d.running (held.is j)) ∙ sym here) k i; copies = copies i }),
          ),
          λ i. absurd i,
        )

    -- a node that hears keeps its incarnation and its notes
    pub record HearsAs (d : ModelNode) : Type 0 where
      pub after : ModelRunning
      pub running : d.running ≡ Some after
      pub origin : after.origin ≡ r.origin
      pub notes : after.notes ≡ r.notes

    goes_hear : (what : What) (fresh : Bool) (d : ModelNode) → HearsAs d → GoesBy n what (answered_by w n d (Ok (Heard fresh)))
    goes_hear (Delivering k) fresh d as_before lt u =
        let y = u.copy.operations in
        let me : Member = record { inc = r.origin.inc; held = u.held.operations; notes = r.notes } in
        let brought : brought_to s n (Delivering k) ≡ y = (λ i. copied_to n (u.on i) (u.there i)) ∙ ap (λ z. cond z y []) u.fits in
        let put : member_by d.running (united (s.node n) (brought_to s n (Delivering k))) ≡ Some (holding me y) =
        (λ i. member_by (as_before.running i) (united (u.on i) (brought i)))
        ∙ (λ i. Some (record { inc = (as_before.origin i).inc; held = u.held.operations ++ y; notes = as_before.notes i })) in
        let next : Members = record { node = with_member (members_of w s) n (holding me y); copies = since b s.copies } in (
          Deliver n ∷ [],
          (
            next,
            (me, y, (λ i. member_by (on i) (u.on i)), counted_since b k s.copies u.copy lt u.there, refl),
            (λ i. record { node = λ m. put_members w s n d (united (s.node n) (brought_to s n (Delivering k))) (holding me y) put m i; copies = since b s.copies }),
          ),
          λ i. absurd i,
        )
    goes_hear _ fresh d as_before late u = absurd late

    goes_opened : (what : What) (now : ℕ) (opening : Opening) → what ≡ Ticking now →
        let note = note_of (joined r.log) (Ticks now) in
        let transition = ticks_by opening t (running_shown t r) (waits_of t (note ∷ r.notes)) now in
        GoesBy n what (answered_by w n (record { last = (w.node n).last; running = goes_on r note transition }) (Ok transition.reply))
    goes_opened what now Shut is fits u = absurd fits
    goes_opened what now GiveUp is fits u = absurd fits
    goes_opened what now Opened is fits u = goes_tick what now is fits.0 fits.1

  -- ---- an event that isn't refused

  goes_ok : (n : NodeId) (what : What) (e : NodeEvent) (running : Option ModelRunning) → Sound w s → b ≤ length s.copies → event_of w.operations w.messages what ≡ Ok e → refusal_of t (shown t (w.node n)) e ≡ None → (w.node n).running ≡ running →
      let step = accepted t n (w.node n).last running e in
      GoesBy n what (answered_by w n step.node step.answer)
  goes_ok n what e None h le is none on fits u = absurd fits
  goes_ok n what (Boot now) (Some r) h le is none on fits u = none_some (sym (ap (λ (l : Option ModelRunning). refusal_by t (w.node n).last (option_map (running_shown t) l) (Boot now)) (sym on) ∙ none))
  goes_ok n what Crash (Some r) h le is none on fits u = absurd fits
  goes_ok n what (Commanded c) (Some r) h le is none on fits u = absurd fits
  goes_ok n what (Ticks now) (Some r) h le is none on fits u = goes_opened n h r on what now (opening_at t (running_shown t r) now) (ticks_what n h r on now what is) fits u
  goes_ok n what (ShipsTo to) (Some r) h le is none on fits u = goes_ship n h r on to le
  goes_ok n what (Hear m) (Some r) h le is none on fits u =
      let d : ModelNode = record { last = (w.node n).last; running = goes_on r (note_of (joined r.log) (Hear m)) (hears_message t (running_shown t r) m) } in
      goes_hear n h r on what (not (is_below (content_of m.body) (joined r.log))) d (record { after = _; running = refl; origin = refl; notes = refl }) fits u
  goes_ok n what (HearOp o) (Some r) h le is none on fits u =
      let d : ModelNode = record { last = (w.node n).last; running = goes_on r (note_of (joined r.log) (HearOp o)) (hears (running_shown t r) (meaning_of (o ∷ []))) } in
      goes_hear n h r on what (not (is_below (meaning_of (o ∷ [])) (joined r.log))) d (record { after = _; running = refl; origin = refl; notes = refl }) fits u

  goes_by : (n : NodeId) (what : What) → Sound w s → b ≤ length s.copies → GoesBy n what (happens_by t w n (event_of w.operations w.messages what))
  goes_by n what h le =
      elim (event_of w.operations w.messages what) as (λ r. event_of w.operations w.messages what ≡ r → GoesBy n what (happens_by t w n r)) [
        | Err fault ↦ λ _ fits u. stays n fault
        | Ok e ↦ λ is. elim (refusal_of t (shown t (w.node n)) e) as (λ r. refusal_of t (shown t (w.node n)) e ≡ r → GoesBy n what (answered_by w n (step_by r t n (w.node n) e).node (step_by r t n (w.node n) e).answer)) [
          | Some why ↦ λ _ fits u. stays n (Refused why)
          | None ↦ λ none. goes_ok n what e (w.node n).running h le is none refl
        ] refl
      ] refl

  goes_happens : (e : WorldEvent) → Sound w s → b ≤ length s.copies → GoesBy e.node e.what (happens t w e)
  goes_happens e h le =
      elim (nat_lt e.node.0 w.count) as (λ z. GoesBy e.node e.what (cond z (happens_by t w e.node (event_of w.operations w.messages e.what)) (record { world = w; answer = Err NoSuchNode }))) [
        | true ↦ goes_by e.node e.what h le
        | false ↦ λ fits u. stays e.node NoSuchNode
      ]

  -- ---- a step

  pub goes_step : (e : WorldEvent) (a : Answer) (next : ModelWorld) → Sound w s → b ≤ length s.copies → Step w (happens t w e) a next → InRound t b w e.node e.what a → Unites s e.node e.what a
      → Goes e.node a next (set_step s e.node e.what a)
  goes_step e a next h le (inl d) fits u =
      subst (λ (p : ModelWorld × Answer). Goes e.node p.1 p.0 (set_step s e.node e.what p.1)) (λ i. (sym d.went_on i, sym d.answered i))
      (goes_happens e h le (subst (InRound t b w e.node e.what) d.answered fits) (subst (Unites s e.node e.what) d.answered u))
  goes_step e a next h le (inr l) fits u =
      subst (λ (p : ModelWorld × Answer). Goes e.node p.1 p.0 (set_step s e.node e.what p.1)) (λ i. (sym l.stayed i, sym l.answered i)) (stays e.node (Refused NoMemory))
