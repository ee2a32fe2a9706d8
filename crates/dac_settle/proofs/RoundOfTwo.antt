-- The round of the worked runs: both nodes know the same, tick, ship and hear. Their claims are given where they are
-- known.
use Rattle.std.proofs.Common.{◌≡◌, append-nil, ◌⊎◌, ℕ, ◌+◌, ◌≤◌, Bool, true, false, not, cond, ◌||◌, ◌&&◌, List, [], ◌∷◌, ◌++◌, length, Option, Some, None, option_map, Ok, Err, refl, sym, ap, subst, ◌∙◌, arith, inl, inr}
use Rattle.dac_settle.specs.laws.Common.{nat_lt, IsSome, option_and_then, false≢true, true≢false, leb-true, le-ltb, NodeId, AppId, MAX_COUNTER, origin_cmp, Life, IsLive, Operation, StateValue, IsOperationOf, AreOperationsOf, meaning_of, In-append_left, In-append_right, In-append_cases, app_count, is_up, up_is, Note, IsLost, IsLostByNewest, waits_of, WorldEvent, What, Message, Whole, Hear, Reply, Heard, Refusal, DeclaredDown, MomentBack, DotsUsedUp, UnknownNode, OnSelf, UpToDate, NotForMe, greatest_counter, no_node, terms_used_up, Position, no_peers, ack_for, has_all, Sweep, sweep_of, sweep_from, swept_by, WorldFault, ModelNode, ModelRunning, joined, shown, running_shown, base_after, refusal_of, meanings, message_of, body_from, step_by, is_below, NoSuchNode, ModelWorld, WorldStepped, AnsweredAs, event_of, happens, happens_by, answered_by, world_after, NodeSet, SetWorld, set_run, Member, IsLate, AllSame, member_by, members_of, InRound, AreInRound, IsWorldRound, AreRounds, first_node, second_node, IsEither, the_app, worked_table, first_of, both_go_round}
use Rattle.std.specs.Prelude.{nat_eq, Result}
use Rattle.std.specs.Option.{is_some}
use Rattle.std.specs.FinMap as map
use Rattle.std.specs.FinSet as set
use Rattle.std.proofs.lemmas.List.{length-append, length-map}
use Rattle.dac_chains.specs.declared.claims.Claim.{Claim}
use Rattle.dac_events.specs.declared.What.TheVariants.{Tick as Ticking, Ship as Shipping, Deliver}
use Rattle.dac_messages.specs.declared.event.Event.{Event}
use Rattle.dac_messages.specs.declared.event.Event.TheVariants.{Tick, Ship}
use Rattle.dac_messages.specs.declared.reply.Reply.TheVariants.{Ticked, Shipped}
use Rattle.dac_commands.specs.Causes.{first}
use Rattle.dac_peers.specs.Peers.{begins, acked_at, acked_by, kept_from}
use Rattle.dac_model_world.specs.SetWorld.{Issue}
use Rattle.dac_settle.specs.Settling.{IsReady}
use Rattle.dac_settle.specs.laws.AnyPlacement.{same_node, one}
use Rattle.dac_settle.proofs.ComingUp.{none_some}

-- ---- the ships
acked_none : (s : StateValue) (to : NodeId) → acked_at no_peers s to ≡ None
acked_none s to = by_life (map.get s.lives to)
  where
    by_life : (o : Option Life) → option_and_then (acked_by no_peers to) o ≡ None
    by_life None = refl
    by_life (Some life) = ap (option_map (λ (n : ℕ). record { inc = life.inc; number = n })) (map.get-empty origin_cmp (record { node = to; inc = life.inc }))

pub begins_none : (s : StateValue) (base : ℕ) (to : NodeId) → begins no_peers s base to ≡ None
begins_none s base to = ap (kept_from base) (acked_none s to)

pub and_none : (b : Bool) → (b && false) ≡ false
and_none true = refl
and_none false = refl

-- ---- events in a round
abbrev Answer : Type 0
Answer = Result Reply WorldFault

record Comes (w : ModelWorld) (es : List WorldEvent) (answers : List Answer) : Type 0 where
  answered : AnsweredAs worked_table w es answers
  fits : AreInRound worked_table 0 w es answers

comes : (w : ModelWorld) (e : WorldEvent) (d : ModelNode) (reply : Reply) (es : List WorldEvent) (answers : List Answer)
    → happens worked_table w e ≡ answered_by w e.node d (Ok reply) → InRound worked_table 0 w e.node e.what (Ok reply)
    → Comes (answered_by w e.node d (Ok reply)).world es answers → Comes w (e ∷ es) (Ok reply ∷ answers)
comes w e d reply es answers is fits rest = record {
  answered = (inl (sym (ap (λ (by : WorldStepped). by.answer) is)), subst (λ (by : WorldStepped). AnsweredAs worked_table by.world es answers) (sym is) rest.answered);
  fits = (fits, subst (λ (by : WorldStepped). AreInRound worked_table 0 by.world es answers) (sym is) rest.fits);
}

ended : (w : ModelWorld) → Comes w [] []
ended w = record { answered = tt; fits = tt }

abbrev e1 : WorldEvent
e1 = record { node = first_node; what = Ticking 5000 }

abbrev e2 : WorldEvent
e2 = record { node = second_node; what = Ticking 5000 }

abbrev e3 : WorldEvent
e3 = record { node = first_node; what = Shipping second_node }

abbrev e4 : WorldEvent
e4 = record { node = second_node; what = Shipping first_node }

abbrev e5 : WorldEvent
e5 = record { node = second_node; what = Deliver 1 }

abbrev e6 : WorldEvent
e6 = record { node = first_node; what = Deliver 2 }

-- the step of an event that isn't refused
abbrev not_refused : ModelWorld → NodeId → Event → WorldStepped
not_refused w n e = answered_by w n (step_by None worked_table n (w.node n) e).node (step_by None worked_table n (w.node n) e).answer

pub happens_so : (w : ModelWorld) (n : NodeId) (what : What) (e : Event) → nat_lt n.0 w.count ≡ true → event_of w.operations w.messages what ≡ Ok e → refusal_of worked_table (shown worked_table (w.node n)) e ≡ None
    → happens worked_table w (record { node = n; what = what }) ≡ not_refused w n e
happens_so w n what e there is none =
    (λ i. cond (there i) (happens_by worked_table w n (event_of w.operations w.messages what)) (record { world = w; answer = Err NoSuchNode }))
    ∙ (λ i. happens_by worked_table w n (is i))
    ∙ ap (λ (why : Option Refusal). answered_by w n (step_by why worked_table n (w.node n) e).node (step_by why worked_table n (w.node n) e).answer) none

turned_round : (xs ys : List Operation) → AreOperationsOf (xs ++ ys) (ys ++ xs)
turned_round xs ys o i = elim (In-append_cases o xs ys i) [ inl x ↦ In-append_right o ys xs x | inr y ↦ In-append_left o ys xs y ]

has_set : (w : ModelWorld) (sets : SetWorld) (m : NodeId) (d : Member) → members_of w sets m ≡ Some d → (held : NodeSet) × ((sets.node m ≡ Some held) × (held.operations ≡ d.held))
has_set w sets m d e = by_set (w.node m).running (sets.node m) refl e
  where
    by_set : (r : Option ModelRunning) (o : Option NodeSet) → sets.node m ≡ o → member_by r o ≡ Some d → (held : NodeSet) × ((sets.node m ≡ Some held) × (held.operations ≡ d.held))
    by_set None o is e = none_some e
    by_set (Some r) None is e = none_some e
    by_set (Some r) (Some set) is e = (set, (is, ap (λ (k : Member). k.held) (one e)))

-- the effect of a tick at moment 5000, of a node with these notes and this state
sweep_by : NodeId → List Note → StateValue → Sweep
sweep_by n notes u = sweep_of worked_table (first_of n) (waits_of worked_table (record { state = u; moment = 5000 } ∷ notes)) 5000 u

-- ---- a world in which both nodes know the same
-- Each of the two nodes has such a log, notes and set, and this state. No other node runs.
module _ (state : StateValue) (opened : NodeId → Bool) (notes : NodeId → List Note)
    (live : (n : NodeId) → IsEither n → IsLive state.lives n 1)
    (only_live : (n : NodeId) (inc : ℕ) → IsLive state.lives n inc → IsEither n × (1 ≡ inc))
    (few : (n : NodeId) → IsEither n → nat_lt MAX_COUNTER (greatest_counter (first_of n) state.known + 1) ≡ false)
    (left : terms_used_up state the_app ≡ false)
    (late : (n : NodeId) → IsEither n → IsLate worked_table (notes n) 5000)
    (noted : (n : NodeId) → IsEither n → (app : AppId) (claim : Claim) → IsLost state app claim → IsLostByNewest (notes n) app claim)
    (log : NodeId → List StateValue) (base : NodeId → ℕ) (held : NodeId → List Operation) (operations : List Operation) (rest : NodeId → ModelNode) (sets : NodeId → Option NodeSet) (issues : List Issue)
    (short : (n : NodeId) → length (log n) ≤ 9)
    (known : (n : NodeId) → IsEither n → joined (log n) ≡ state)
    (means : (n : NodeId) → IsEither n → meaning_of (held n) ≡ state)
    (alike : (m n : NodeId) → IsEither m → IsEither n → AreOperationsOf (held m) (held n))
    (no_run : (n : NodeId) → nat_eq n.0 0 ≡ false → nat_eq n.0 1 ≡ false → (rest n).running ≡ None)
    (no_set : (n : NodeId) → nat_eq n.0 0 ≡ false → nat_eq n.0 1 ≡ false → sets n ≡ None)
  where
    -- a node whose start gate is open or shut
    abbrev known_by : Bool → NodeId → ModelNode
    known_by is_open n = record { last = 1; running = Some (record { origin = first_of n; moments = record { booted = 0; last = 0 }; is_open = is_open; notes = notes n; log = log n; base = base n; peers = no_peers }) }

    abbrev pub known_node : NodeId → ModelNode
    known_node n = known_by (opened n) n

    abbrev pub known_world : ModelWorld
    known_world = record { count = 3; node = λ m. cond (nat_eq m.0 1) (known_node second_node) (cond (nat_eq m.0 0) (known_node first_node) (rest m)); operations = operations; messages = [] }

    abbrev held_set : NodeId → NodeSet
    held_set n = record { inc = 1; operations = held n }

    abbrev pub known_sets : SetWorld
    known_sets = record { node = λ m. cond (nat_eq m.0 1) (Some (held_set second_node)) (cond (nat_eq m.0 0) (Some (held_set first_node)) (sets m)); issued = issues; copies = [] }

    -- ---- the running nodes
    abbrev the_member : NodeId → Member
    the_member n = record { inc = 1; held = held n; notes = notes n }

    is_member : (m : NodeId) (d : Member) → members_of known_world known_sets m ≡ Some d → IsEither m × (the_member m ≡ d)
    is_member m d e = by_tests (nat_eq m.0 0) (nat_eq m.0 1) refl refl e
      where
        of : (n : NodeId) → n ≡ m → the_member n ≡ d → the_member m ≡ d
        of n same is = ap the_member (sym same) ∙ is

        by_tests : (a b : Bool) → nat_eq m.0 0 ≡ a → nat_eq m.0 1 ≡ b
            → member_by (cond {A = ModelNode} b (known_node second_node) (cond a (known_node first_node) (rest m))).running (cond b (Some (held_set second_node)) (cond a (Some (held_set first_node)) (sets m))) ≡ Some d
            → IsEither m × (the_member m ≡ d)
        by_tests a true other at e = (inr (same_node at), of second_node (sym (same_node at)) (one e))
        by_tests true false at other e = (inl (same_node at), of first_node (sym (same_node at)) (one e))
        by_tests false false away apart e = none_some (sym (ap (λ (r : Option ModelRunning). member_by r (sets m)) (no_run m away apart)) ∙ e)

    member_at : (m : NodeId) → IsEither m → members_of known_world known_sets m ≡ Some (the_member m)
    member_at m either = elim either [
      | inl a ↦ subst (λ (k : NodeId). members_of known_world known_sets k ≡ Some (the_member k)) (sym a) refl
      | inr b ↦ subst (λ (k : NodeId). members_of known_world known_sets k ≡ Some (the_member k)) (sym b) refl
    ]

    lives_here : (m : NodeId) (d : Member) → members_of known_world known_sets m ≡ Some d → meaning_of d.held ≡ state
    lives_here m d of_m = let at = is_member m d of_m in ap (λ (k : Member). meaning_of k.held) (sym at.1) ∙ means m at.0

    pub is_ready : IsReady (members_of known_world known_sets)
    is_ready = record {
      same = λ m n d e of_m of_n o i.
          let a = is_member m d of_m in
          let b = is_member n e of_n in
          subst (λ (k : Member). IsOperationOf o k.held) b.1 (alike m n a.0 b.0 o (subst (λ (k : Member). IsOperationOf o k.held) (sym a.1) i));
      runs = λ m d of_m n inc alive.
          let only = only_live n inc (subst (λ (s : StateValue). IsLive s.lives n inc) (lives_here m d of_m) alive) in
          (the_member n, member_at n only.0, only.1);
      live = λ m n d e of_m of_n.
          let at = is_member n e of_n in
          subst (λ (s : StateValue). IsLive s.lives n e.inc) (sym (lives_here m d of_m))
          (subst (λ (k : Member). IsLive state.lives n k.inc) at.1 (live n at.0));
      noted = λ m d of_m app claim lost.
          let at = is_member m d of_m in
          subst (λ (k : Member). IsLostByNewest k.notes app claim) at.1
          (noted m at.0 app claim (subst (λ (s : StateValue). IsLost s app claim) (lives_here m d of_m) lost));
    }

    -- ---- the ticks
    few_log : (n : NodeId) → nat_lt MAX_COUNTER (length (log n) + 1) ≡ false
    few_log n = at_most (length (log n)) (short n)
      where
        at_most : (l : ℕ) → l ≤ 9 → nat_lt MAX_COUNTER (l + 1) ≡ false
        at_most l h = le-ltb MAX_COUNTER (l + 1) (omega (arith, leb-true 10 MAX_COUNTER refl))

    up_there : (n : NodeId) → IsEither n → is_up state (first_of n) ≡ true
    up_there n either = (up_is state (first_of n)).1 (live n either)

    ticks_on : (n : NodeId) → IsEither n → refusal_of worked_table (shown worked_table (known_node n)) (Tick 5000) ≡ None
    ticks_on n either =
        (λ i. refused (not (is_up (known n either i) (first_of n))) (nat_lt MAX_COUNTER (greatest_counter (first_of n) (known n either i).known + 1)) (few_log n i))
        ∙ (λ i. refused (not (up_there n either i)) (few n either i) false)
      where
        refused : Bool → Bool → Bool → Option Refusal
        refused down used many = first ((down, DeclaredDown) ∷ (false, MomentBack) ∷ (used || many, DotsUsedUp) ∷ [])

    -- the effect of a tick of the node at this state
    abbrev pub sweep_at : NodeId → StateValue → Sweep
    sweep_at n s = sweep_of worked_table (first_of n) (waits_of worked_table (record { state = s; moment = 5000 } ∷ notes n)) 5000 s

    abbrev pub sweep : NodeId → Sweep
    sweep n = sweep_at n (joined (log n))

    pub sweep_is : (n : NodeId) → IsEither n → sweep n ≡ sweep_at n state
    unfolding sweep_by
    sweep_is n either = λ i. sweep_by n (notes n) (known n either i)

    few_done : (n : NodeId) → IsEither n → ((sweep n).passed ≡ []) × (length (sweep n).ops ≤ 1)
    few_done n either =
        swept_by worked_table (first_of n) (waits_of worked_table (record { state = joined (log n); moment = 5000 } ∷ notes n)) 5000 (λ sweep. (sweep.passed ≡ []) × (length sweep.ops ≤ 1)) (sweep_from (joined (log n))) the_app
        (λ none. (refl, omega arith))
        (λ mine used. absurd (true≢false (sym used ∙ ap (λ u. terms_used_up u the_app) (known n either) ∙ left)))
        (λ mine left. (refl, omega arith))

    -- ---- the ships
    -- the node after its tick
    abbrev ticked_log : NodeId → List StateValue
    ticked_log n = log n ++ meanings (sweep n).ops

    abbrev ticked_run : NodeId → ModelRunning
    ticked_run n = record {
      origin = first_of n;
      moments = record { booted = 0; last = 5000 };
      is_open = true;
      notes = record { state = joined (log n); moment = 5000 } ∷ notes n;
      log = ticked_log n;
      base = base_after (base n) (length (ticked_log n)) 0;
      peers = no_peers;
    }

    abbrev ticked_node : NodeId → ModelNode
    ticked_node n = record { last = 1; running = Some (ticked_run n) }

    -- the message shipped
    abbrev shipped_body : NodeId → NodeId → Option Position → Message
    shipped_body n to p = record { from = first_of n; to = to; only = option_map (λ (p : Position). p.inc) p; up_to = length (ticked_log n); body = body_from (running_shown worked_table (ticked_run n)) p; ack = ack_for no_peers to }

    abbrev the_message : NodeId → NodeId → Message
    the_message n to = record { from = first_of n; to = to; only = None; up_to = length (ticked_log n); body = Whole (joined (ticked_log n)); ack = ack_for no_peers to }

    message_is : (n to : NodeId) → message_of (running_shown worked_table (ticked_run n)) to ≡ the_message n to
    message_is n to = ap (shipped_body n to) (begins_none (joined (ticked_log n)) (ticked_run n).base to)

    ships_on : (n to : NodeId) → no_node worked_table to ≡ false → nat_eq to.0 n.0 ≡ false → refusal_of worked_table (shown worked_table (ticked_node n)) (Ship to) ≡ None
    ships_on n to there other = λ i. refused (there i) (other i) (has_all (length (ticked_log n)) (begins_none (joined (ticked_log n)) (ticked_run n).base to i) && not (set.contains no_peers.owed to))
      where
        refused : Bool → Bool → Bool → Option Refusal
        refused none self up = first ((none, UnknownNode) ∷ (self, OnSelf) ∷ (up, UpToDate) ∷ [])

    -- ---- the messages heard
    few_deltas : (n : NodeId) → IsEither n → nat_lt MAX_COUNTER (length (ticked_log n) + 1) ≡ false
    few_deltas n either =
        at_most (length (ticked_log n)) (count (length (log n)) (length (sweep n).ops) (length (meanings (sweep n).ops)) (length (ticked_log n)) (length-append (log n) (meanings (sweep n).ops)) (length-map (sweep n).ops (λ (o : Operation). meaning_of (o ∷ []))) (short n) (few_done n either).1)
      where
        count : (a k m l : ℕ) → l ≡ a + m → m ≡ k → a ≤ 9 → k ≤ 1 → l ≤ 10
        count a k m l e f g h = omega arith

        at_most : (l : ℕ) → l ≤ 10 → nat_lt MAX_COUNTER (l + 1) ≡ false
        at_most l h = le-ltb MAX_COUNTER (l + 1) (omega (arith, leb-true 11 MAX_COUNTER refl))

    few_after : (n : NodeId) → IsEither n → nat_lt MAX_COUNTER (length (ticked_log n ++ []) + 1) ≡ false
    few_after n either = ap (λ (l : List StateValue). nat_lt MAX_COUNTER (length l + 1)) (append-nil (ticked_log n)) ∙ few_deltas n either

    abbrev tick_reply : NodeId → Reply
    tick_reply n = Ticked (sweep n).ops (sweep n).passed

    -- the start gate opens, because no sync is configured
    tick_is : (w : ModelWorld) (n : NodeId) (is_open : Bool) →
        answered_by w n (step_by None worked_table n (known_by is_open n) (Tick 5000)).node (step_by None worked_table n (known_by is_open n) (Tick 5000)).answer ≡ answered_by w n (ticked_node n) (Ok (tick_reply n))
    tick_is w n true = refl
    tick_is w n false = refl

    abbrev w1 : ModelWorld
    w1 = (answered_by known_world first_node (ticked_node first_node) (Ok (tick_reply first_node))).world

    is1 : happens worked_table known_world e1 ≡ answered_by known_world first_node (ticked_node first_node) (Ok (tick_reply first_node))
    is1 = happens_so known_world first_node (Ticking 5000) (Tick 5000) refl refl (ticks_on first_node (inl refl)) ∙ tick_is known_world first_node (opened first_node)

    abbrev w2 : ModelWorld
    w2 = (answered_by w1 second_node (ticked_node second_node) (Ok (tick_reply second_node))).world

    is2 : happens worked_table w1 e2 ≡ answered_by w1 second_node (ticked_node second_node) (Ok (tick_reply second_node))
    is2 = happens_so w1 second_node (Ticking 5000) (Tick 5000) refl refl (ticks_on second_node (inr refl)) ∙ tick_is w1 second_node (opened second_node)

    abbrev shipping_node : NodeId → NodeId → ModelNode
    shipping_node n to = (step_by None worked_table n (ticked_node n) (Ship to)).node

    abbrev w3 : ModelWorld
    w3 = (answered_by w2 first_node (shipping_node first_node second_node) (Ok (Shipped (the_message first_node second_node)))).world

    is3 : happens worked_table w2 e3 ≡ answered_by w2 first_node (shipping_node first_node second_node) (Ok (Shipped (the_message first_node second_node)))
    is3 =
        happens_so w2 first_node (Shipping second_node) (Ship second_node) refl refl (ships_on first_node second_node refl refl)
        ∙ ap (λ (m : Message). answered_by w2 first_node (shipping_node first_node second_node) (Ok (Shipped m))) (message_is first_node second_node)

    abbrev w4 : ModelWorld
    w4 = (answered_by w3 second_node (shipping_node second_node first_node) (Ok (Shipped (the_message second_node first_node)))).world

    is4 : happens worked_table w3 e4 ≡ answered_by w3 second_node (shipping_node second_node first_node) (Ok (Shipped (the_message second_node first_node)))
    is4 =
        happens_so w3 second_node (Shipping first_node) (Ship first_node) refl refl (ships_on second_node first_node refl refl)
        ∙ ap (λ (m : Message). answered_by w3 second_node (shipping_node second_node first_node) (Ok (Shipped m))) (message_is second_node first_node)

    -- node n hears the message from the other
    abbrev is_new : NodeId → NodeId → Bool
    is_new n from = not (is_below (joined (ticked_log from)) (joined (ticked_log n ++ [])))

    hears_on : (n from : NodeId) → IsEither n → nat_eq from.0 n.0 ≡ false → nat_eq n.0 n.0 ≡ true → refusal_of worked_table (shown worked_table (shipping_node n from)) (Hear (the_message from n)) ≡ None
    hears_on n from either other own =
        (λ i. refused (other i) (own i) (is_new n from && few_after n either i))
        ∙ ap (refused false true) (and_none (is_new n from))
      where
        refused : Bool → Bool → Bool → Option Refusal
        refused self mine many = first ((self, OnSelf) ∷ (not (mine && true), NotForMe) ∷ (many, DotsUsedUp) ∷ [])

    abbrev hearing_node : NodeId → NodeId → ModelNode
    hearing_node n from = (step_by None worked_table n (shipping_node n from) (Hear (the_message from n))).node

    abbrev w5 : ModelWorld
    w5 = (answered_by w4 second_node (hearing_node second_node first_node) (Ok (Heard (is_new second_node first_node)))).world

    is5 : happens worked_table w4 e5 ≡ answered_by w4 second_node (hearing_node second_node first_node) (Ok (Heard (is_new second_node first_node)))
    is5 = happens_so w4 second_node (Deliver 1) (Hear (the_message first_node second_node)) refl refl (hears_on second_node first_node (inr refl) refl refl)

    is6 : happens worked_table w5 e6 ≡ answered_by w5 first_node (hearing_node first_node second_node) (Ok (Heard (is_new first_node second_node)))
    is6 = happens_so w5 first_node (Deliver 2) (Hear (the_message second_node first_node)) refl refl (hears_on first_node second_node (inl refl) refl refl)

    -- the results after the ticks, and all results for given effects of the ticks
    abbrev pub told : List Answer
    told =
        Ok (Shipped (the_message first_node second_node)) ∷ Ok (Shipped (the_message second_node first_node))
        ∷ Ok (Heard (is_new second_node first_node)) ∷ Ok (Heard (is_new first_node second_node)) ∷ []

    abbrev pub answers_by : Sweep → Sweep → List Answer
    answers_by u v = Ok (Ticked u.ops u.passed) ∷ Ok (Ticked v.ops v.passed) ∷ told

    abbrev the_answers : List Answer
    the_answers = answers_by (sweep first_node) (sweep second_node)

    all_come : Comes known_world both_go_round the_answers
    all_come =
        comes known_world e1 _ _ _ _ is1 ((few_done first_node (inl refl)).0, late first_node (inl refl))
        (comes w1 e2 _ _ _ _ is2 ((few_done second_node (inr refl)).0, late second_node (inr refl))
        (comes w2 e3 _ _ _ _ is3 tt
        (comes w3 e4 _ _ _ _ is4 tt
        (comes w4 e5 _ _ _ _ is5 (omega arith)
        (comes w5 e6 _ _ _ _ is6 (omega arith) (ended _))))))

    -- ---- the sets at the end
    abbrev held_after : NodeId → List Operation
    held_after n = held n ++ (sweep n).ops

    abbrev set_first : NodeSet
    set_first = record { inc = 1; operations = held_after first_node ++ held_after second_node }

    abbrev set_second : NodeSet
    set_second = record { inc = 1; operations = held_after second_node ++ held_after first_node }

    abbrev ticked_set : NodeId → NodeSet
    ticked_set n = record { inc = 1; operations = held_after n }

    set_is : (m : NodeId) (held : NodeSet) → (set_run known_sets both_go_round the_answers).node m ≡ Some held → (set_first ≡ held) ⊎ (set_second ≡ held)
    set_is m held e = by_tests (nat_eq m.0 0) (nat_eq m.0 1) refl refl e
      where
        by_tests : (a b : Bool) → nat_eq m.0 0 ≡ a → nat_eq m.0 1 ≡ b
            → cond a (Some set_first) (cond b (Some set_second) (cond b (Some (ticked_set second_node)) (cond a (Some (ticked_set first_node)) (cond b (Some (held_set second_node)) (cond a (Some (held_set first_node)) (sets m)))))) ≡ Some held
            → (set_first ≡ held) ⊎ (set_second ≡ held)
        by_tests true b at other e = inl (one e)
        by_tests false true other at e = inr (one e)
        by_tests false false away apart e = none_some (sym (no_set m away apart) ∙ e)

    same_held : (a b : NodeSet) → (set_first ≡ a) ⊎ (set_second ≡ a) → (set_first ≡ b) ⊎ (set_second ≡ b) → AreOperationsOf a.operations b.operations
    same_held a b (inl p) (inl q) = subst (λ (k : NodeSet × NodeSet). AreOperationsOf k.0.operations k.1.operations) (λ i. (p i, q i)) (λ o i. i)
    same_held a b (inl p) (inr q) = subst (λ (k : NodeSet × NodeSet). AreOperationsOf k.0.operations k.1.operations) (λ i. (p i, q i)) (turned_round (held_after first_node) (held_after second_node))
    same_held a b (inr p) (inl q) = subst (λ (k : NodeSet × NodeSet). AreOperationsOf k.0.operations k.1.operations) (λ i. (p i, q i)) (turned_round (held_after second_node) (held_after first_node))
    same_held a b (inr p) (inr q) = subst (λ (k : NodeSet × NodeSet). AreOperationsOf k.0.operations k.1.operations) (λ i. (p i, q i)) (λ o i. i)

    all_same : (w : ModelWorld) → AllSame (members_of w (set_run known_sets both_go_round the_answers))
    all_same w m n d e of_m of_n =
        let sets = set_run known_sets both_go_round the_answers in
        let a = has_set w sets m d of_m in
        let b = has_set w sets n e of_n in
        subst (λ (k : List Operation × List Operation). AreOperationsOf k.0 k.1) (λ i. (a.1.1 i, b.1.1 i)) (same_held a.0 b.0 (set_is m a.0 a.1.0) (set_is n b.0 b.1.0))

    runs_one : (n : NodeId) → IsSome (known_world.node n).running → IsEither n
    runs_one n is = by_tests (nat_eq n.0 0) (nat_eq n.0 1) refl refl is
      where
        by_tests : (a b : Bool) → nat_eq n.0 0 ≡ a → nat_eq n.0 1 ≡ b → IsSome (cond {A = ModelNode} b (known_node second_node) (cond a (known_node first_node) (rest n))).running → IsEither n
        by_tests a true other at h = inr (same_node at)
        by_tests true false at other h = inl (same_node at)
        by_tests false false away apart h = absurd (false≢true (sym (ap is_some (no_run n away apart)) ∙ h))

    the_round : IsWorldRound worked_table known_world known_sets both_go_round the_answers
    the_round = record {
      answered = all_come.answered;
      fits = all_come.fits;
      ticks = λ n is. elim (runs_one n is) [ inl a ↦ inl (sym a, tt) | inr b ↦ inr (inl (sym b, tt)) ];
      same = all_same (world_after worked_table known_world both_go_round the_answers);
    }

    -- ---- the results, for known effects of the ticks
    module _ (u v : Sweep) (first_is : sweep first_node ≡ u) (second_is : sweep second_node ≡ v) where
      pub the_rounds : AreRounds worked_table (app_count worked_table) known_world known_sets both_go_round (answers_by u v)
      the_rounds =
          subst (λ (p : Sweep × Sweep). AreRounds worked_table (app_count worked_table) known_world known_sets both_go_round (answers_by p.0 p.1)) (λ i. (first_is i, second_is i)) (both_go_round, [], the_answers, [], refl, refl, the_round, (refl, refl))

      -- the set of both nodes at the end
      abbrev pub held_by_both : List Operation
      held_by_both = (held first_node ++ u.ops) ++ (held second_node ++ v.ops)

      pub all_hold : (m : NodeId) (set : NodeSet) → (set_run known_sets both_go_round (answers_by u v)).node m ≡ Some set → AreOperationsOf set.operations held_by_both × AreOperationsOf held_by_both set.operations
      all_hold =
          subst
          (λ (p : Sweep × Sweep). (m : NodeId) (set : NodeSet) → (set_run known_sets both_go_round (answers_by p.0 p.1)).node m ≡ Some set →
          AreOperationsOf set.operations ((held first_node ++ p.0.ops) ++ (held second_node ++ p.1.ops)) × AreOperationsOf ((held first_node ++ p.0.ops) ++ (held second_node ++ p.1.ops)) set.operations)
          (λ i. (first_is i, second_is i))
          (λ m set is. let at = set_is m set is in (same_held set set_first at (inl refl), same_held set_first set (inl refl) at))
