-- Every event keeps a world made of issued operations: a node issues operations with new dots, and is brought only
-- meanings of issued operations.
use Rattle.std.proofs.Common.{◌≡◌, ℕ, zero, suc, ◌+◌, ◌-◌, Bool, true, false, cond, inl, inr, List, [], ◌∷◌, ◌++◌, Option, Some, None, Ok, nat_eq, fold, refl, sym, ap, subst, ◌∙◌, append-nil, eq-eqb, true≢false}
use Rattle.dac_model_world.specs.laws.Common.{nat_lt, IfSome, option_map, slice_get, exact_unsigned_eq, NodeId, Table, Origin, Operation, StateValue, bottom, join, meaning_of, IsOperationOf, AreOperationsOf, DotsDetermine, is_below, Within-append, In-append_left, In-append_right, In-append_cases, join-meaning, Opening, Shut, Opened, GiveUp, Noted, What, act_of, next_operation, Interval, Nothing, Message, content_of, Event, Boot, Crash, Tick, Ship, Hear, HearOp, Reply, Crashed, GaveUp, Heard, Position, begins, has_all, sweep_of, AreIssued, NodeValue, RunningValue, state_of, shown, Transition, transition_of, ticks_by, opening_at, meanings, brings, body_from, message_of, up, AcceptedAs, reply_by, left_by, claims_issued, some_same, WorldValue, Goes, Shows, start, event_of, numbered, issued_by, shipped_by, DistinctDots}
use Rattle.std.specs.List.{All}
use Rattle.std.proofs.lemmas.List.Elements.{All-nil, All-cons, All-head, All-tail, All-append, All-push, All-drop, All-weaker}
use Rattle.dac_config.specs.Table.{node_count}
use Rattle.dac_deltas.specs.KeptDeltas.{KeptDeltas, empty, pushed, trimmed, numbered_from}
use Rattle.dac_messages.specs.declared.event.Event.TheVariants.{Command as Commanded}
use Rattle.dac_model_node.specs.Transitions.{keeps, goes_down, holds_back, looks_after, ships, hears as hears_state, hears_message, issues}
use Rattle.dac_model_node.specs.Accepted.{running_by}
use Rattle.dac_model_world.specs.Histories.{off_after}
use Rattle.dac_model_world.specs.ModelWorld.{counted}
use Rattle.dac_model_world.specs.Made.{Means, own_origin, NoneLater, SetOk, RunsMade, NodeMade, BodiesMean, IsMade}
use Rattle.dac_model_world.specs.laws.Operations.{one_in, Agree-within, DistinctDots-agree, DistinctDots-push}
use Rattle.dac_model_world.specs.laws.Meanings.{join-bottom}
use Rattle.dac_model_world.specs.laws.Gathered.{meaning-none}
use Rattle.dac_model_world.specs.laws.Carried.{none_some}
use Rattle.dac_model_world.specs.laws.OneNode.{Grown, grow, boot_set, boot_fresh, hear_set}
use Rattle.dac_model_world.specs.laws.Sound.{hears, hears_op, counted_in}
use Rattle.dac_model_world.specs.laws.Follow.{Here, changed_at}

-- ---- a meaning of operations is one of more operations
means_more : (ops more : List Operation) (s : StateValue) → Means ops s → Means (ops ++ more) s
means_more ops more s h = record { some = h.some; within = λ o i. In-append_left o ops more (h.within o i); is = h.is }

bodies_more : (ops more : List Operation) (ms : List Message) → BodiesMean ops ms → BodiesMean (ops ++ more) ms
bodies_more ops more ms h = All-weaker (λ (m : Message). Means ops (content_of m.body)) (λ (m : Message). Means (ops ++ more) (content_of m.body)) (λ m. means_more ops more (content_of m.body)) ms h

-- a node that issued none of these operations
node_more : (ops more : List Operation) (n : NodeId) (x : NodeValue) → ((o : Operation) → IsOperationOf o more → o.dot.origin.node ≡ n → ⊥) → NodeMade ops n x → NodeMade (ops ++ more) n x
node_more ops more n x far h =
    let old : NoneLater (ops ++ more) n x.last = λ o i t. elim (In-append_cases o ops more i) [ inl a ↦ h.old o a t | inr b ↦ absurd (far o b t) ] in
    record {
      old = old;
      runs = λ r e.
          let k = h.runs r e in
          record {
            held = k.held;
            state = k.state;
            set = record {
              within = λ o i. In-append_left o ops more (k.set.within o i);
              own = λ o i t. elim (In-append_cases o ops more i) [ inl a ↦ k.set.own o a t | inr b ↦ absurd (far o b (ap (λ (q : Origin). q.node) t)) ];
              old = old;
            };
            origin = k.origin;
            kept = All-weaker (Means ops) (Means (ops ++ more)) (means_more ops more) r.kept.deltas k.kept;
          };
    }

-- ---- joins
-- joins of such states mean operations
joins_mean : (ops : List Operation) (s : StateValue) (states : List StateValue) → DotsDetermine ops → Means ops s → All (Means ops) states → Means ops (fold join s states)
joins_mean ops s [] agree h all = h
joins_mean ops s (x ∷ states) agree h all =
    let k = All-head (Means ops) x states all in
    let within : AreOperationsOf (h.some ++ k.some) ops = Within-append h.some k.some ops h.within k.within in
    joins_mean ops (join s x) states agree
    (record {
      some = h.some ++ k.some;
      within = within;
      is = (λ i. join (h.is i) (k.is i)) ∙ join-meaning h.some k.some (Agree-within (h.some ++ k.some) ops within agree);
    })
    (All-tail (Means ops) x states all)

nothing_means : (ops : List Operation) → Means ops bottom
nothing_means ops = record { some = []; within = λ o i. absurd i; is = meaning-none }

-- added deltas are kept with the others, and some are dropped
module _ (P : StateValue → Type 0) where
  kept_fold : (k : KeptDeltas StateValue) (adds : List StateValue) → All P k.deltas → All P adds → All P (fold pushed k adds).deltas
  kept_fold k [] old new = old
  kept_fold k (x ∷ adds) old new = kept_fold (pushed k x) adds (All-drop P _ (k.deltas ++ x ∷ []) (All-push P k.deltas x old (All-head P x adds new))) (All-tail P x adds new)

  kept_after : (k : KeptDeltas StateValue) (adds : List StateValue) (trim : ℕ) → All P k.deltas → All P adds → All P (trimmed (fold pushed k adds) trim).deltas
  kept_after k adds trim old new = All-drop P _ (fold pushed k adds).deltas (kept_fold k adds old new)

-- the states that a body adds to a state, and their join
record BringsMade (ops : List Operation) (s body : StateValue) (held : List Operation) : Type 0 where
  delta : List Operation
  within : AreOperationsOf delta ops
  state : fold join s (brings s body) ≡ meaning_of (held ++ delta)
  adds : All (Means ops) (brings s body)

brings_made : (ops : List Operation) (s body : StateValue) (held : List Operation) → DotsDetermine ops → s ≡ meaning_of held → AreOperationsOf held ops → Means ops body → BringsMade ops s body held
brings_made ops s body held agree is inside m = let r = by in record { delta = r.0; within = r.1.0; state = r.1.1.0; adds = r.1.1.1 }
  where
    by : (d : List Operation) × (AreOperationsOf d ops × ((fold join s (brings s body) ≡ meaning_of (held ++ d)) × All (Means ops) (brings s body)))
    by = elim (is_below body s) as (λ b. (d : List Operation) × (AreOperationsOf d ops × ((fold join s (cond b [] (body ∷ [])) ≡ meaning_of (held ++ d)) × All (Means ops) (cond b [] (body ∷ []))))) [
      | true ↦ ([], ((λ o i. absurd i), (is ∙ ap meaning_of (sym (append-nil held)), All-nil (Means ops))))
      | false ↦ (m.some, (m.within, ((λ i. join (is i) (m.is i)) ∙ join-meaning held m.some (Agree-within (held ++ m.some) ops (Within-append held m.some ops inside m.within) agree), All-cons (Means ops) body [] m (All-nil (Means ops)))))
    ]

-- ---- a step of a node
-- the node after a step, and the operations and messages of its reply
record StepMade (ops : List Operation) (n : NodeId) (x : NodeValue) (reply : Reply) : Type 0 where
  distinct : DistinctDots (ops ++ issued_by reply)
  mine : (o : Operation) → IsOperationOf o (issued_by reply) → o.dot.origin.node ≡ n
  node : NodeMade (ops ++ issued_by reply) n x
  shipped : BodiesMean ops (shipped_by reply)

-- a running node, or one that is off
runs_or_off : (ops : List Operation) (n : NodeId) (last : ℕ) (off : Bool) (r : RunningValue) → NoneLater ops n last → RunsMade ops n last r → NodeMade ops n (record { last = last; running = cond off None (Some r) })
runs_or_off ops n last true r old h = record { old = old; runs = λ q e. none_some e }
runs_or_off ops n last false r old h = record { old = old; runs = λ q e. subst (RunsMade ops n last) (some_same r q e) h }

-- a node boots
boot_made : (t : Table) (ops : List Operation) (n : NodeId) (last : ℕ) (noted : List (Option Noted)) (e : Event) → DistinctDots ops → NoneLater ops n last → StepMade ops n (left_by t n last None noted e) (reply_by t n last None noted e)
boot_made t ops n last noted e distinct old =
    let x : Operation = up (own_origin n (last + 1)) in
    let set = boot_set ops n last old in
    let one : Means (ops ++ x ∷ []) (meaning_of (x ∷ [])) = record { some = x ∷ []; within = set.within; is = refl } in
    record {
      distinct = DistinctDots-push ops x distinct (boot_fresh ops n last old);
      mine = λ o i. ap (λ (y : Operation). y.dot.origin.node) (one_in o x i);
      node = record {
        old = set.old;
        runs = λ r e. subst (RunsMade (ops ++ x ∷ []) n (last + 1)) (some_same _ r e) (record {
          held = x ∷ [];
          state = join-bottom (x ∷ []);
          set = set;
          origin = refl;
          kept = kept_fold (Means (ops ++ x ∷ [])) empty (meaning_of (x ∷ []) ∷ []) (All-nil (Means (ops ++ x ∷ []))) (All-cons (Means (ops ++ x ∷ [])) (meaning_of (x ∷ [])) [] one (All-nil (Means (ops ++ x ∷ []))));
        });
      };
      shipped = All-nil (λ (m : Message). Means ops (content_of m.body));
    }

module _ (ops : List Operation) (n : NodeId) (last : ℕ) (r : RunningValue) (distinct : DistinctDots ops) (h : RunsMade ops n last r) (noted : List (Option Noted)) where
  abbrev Left : Transition → Type 0
  Left transition = StepMade ops n (record { last = last; running = running_by r noted transition }) transition.reply

  -- a transition adds these states, after which the state means this set
  transition_made : (transition : Transition) (held : List Operation) → DistinctDots (ops ++ issued_by transition.reply) → ((o : Operation) → IsOperationOf o (issued_by transition.reply) → o.dot.origin.node ≡ n) → SetOk (ops ++ issued_by transition.reply) n last held →
      fold join r.state transition.adds ≡ meaning_of held → All (Means (ops ++ issued_by transition.reply)) transition.adds → BodiesMean ops (shipped_by transition.reply) → Left transition
  transition_made transition held apart mine set state adds shipped =
      let qs = issued_by transition.reply in
      record {
        distinct = apart;
        mine = mine;
        node = runs_or_off (ops ++ qs) n last transition.goes_off _ set.old (record {
          held = held;
          state = state;
          set = set;
          origin = h.origin;
          kept = kept_after (Means (ops ++ qs)) r.kept transition.adds transition.trim (All-weaker (Means ops) (Means (ops ++ qs)) (means_more ops qs) r.kept.deltas h.kept) adds;
        });
        shipped = shipped;
      }

  -- nothing is issued, and the added states mean these operations
  unissued : (transition : Transition) (delta : List Operation) → [] ≡ issued_by transition.reply → AreOperationsOf delta ops → fold join r.state transition.adds ≡ meaning_of (h.held ++ delta) → All (Means ops) transition.adds → BodiesMean ops (shipped_by transition.reply) → Left transition
  unissued transition delta none within state adds shipped =
      let same : ops ≡ ops ++ issued_by transition.reply = sym (append-nil ops) ∙ ap (λ qs. ops ++ qs) none in
      transition_made transition (h.held ++ delta) (subst DistinctDots same distinct) (λ o i. absurd (subst (IsOperationOf o) (sym none) i))
      (subst (λ qs. SetOk qs n last (h.held ++ delta)) same (hear_set ops h.held delta n last within h.set))
      state (subst (λ qs. All (Means qs) transition.adds) same adds) shipped

  -- nothing is issued, and no state is added
  still : (transition : Transition) → [] ≡ issued_by transition.reply → transition.adds ≡ [] → BodiesMean ops (shipped_by transition.reply) → Left transition
  still transition none nothing shipped =
      unissued transition [] none (λ o i. absurd i) (ap (fold join r.state) nothing ∙ (h.state ∙ ap meaning_of (sym (append-nil h.held)))) (subst (All (Means ops)) (sym nothing) (All-nil (Means ops))) shipped

  no_bodies : BodiesMean ops []
  no_bodies = All-nil (λ (m : Message). Means ops (content_of m.body))

  -- operations are issued one after another
  issued : (transition : Transition) (more : List Operation) → more ≡ issued_by transition.reply → transition.adds ≡ meanings more → AreIssued r.origin r.state more → BodiesMean ops (shipped_by transition.reply) → Left transition
  issued transition more is adds next shipped =
      let g : Grown ops n last r.state h.held more = grow n last r.origin h.origin ops r.state h.held more h.state distinct h.set next in
      let same : ops ++ more ≡ ops ++ issued_by transition.reply = ap (λ qs. ops ++ qs) is in
      transition_made transition (h.held ++ more) (subst DistinctDots same g.distinct) (λ o i. g.here o (subst (IsOperationOf o) (sym is) i))
      (subst (λ qs. SetOk qs n last (h.held ++ more)) same g.set)
      (ap (fold join r.state) adds ∙ g.state)
      (subst (λ qs. All (Means qs) transition.adds) same (subst (All (Means (ops ++ more))) (sym adds) (each_means more (ops ++ more) (λ o i. In-append_right o ops more i)))) shipped
    where
      each_means : (more qs : List Operation) → AreOperationsOf more qs → All (Means qs) (meanings more)
      each_means [] qs within = All-nil (Means qs)
      each_means (o ∷ more) qs within =
          All-cons (Means qs) (meaning_of (o ∷ [])) (meanings more)
          (record { some = o ∷ []; within = λ x i. within x (inl (one_in x o i)); is = refl })
          (each_means more qs (λ x i. within x (inr i)))

  -- the body of a message shipped
  body_means : (from : Option Position) → Means ops (content_of (body_from r from))
  body_means None = record { some = h.held; within = h.set.within; is = h.state }
  body_means (Some p) = elim (has_all r.kept.count (Some p)) as (λ b. Means ops (content_of (cond b Nothing (Interval (fold join bottom (numbered_from r.kept p.number)))))) [
    | true ↦ nothing_means ops
    | false ↦ joins_mean ops bottom (numbered_from r.kept p.number) (DistinctDots-agree ops distinct) (nothing_means ops) (All-drop (Means ops) _ r.kept.deltas h.kept)
  ]

  -- a state is heard
  heard : (transition : Transition) (body : StateValue) → [] ≡ issued_by transition.reply → [] ≡ shipped_by transition.reply → transition.adds ≡ brings r.state body → Means ops body → Left transition
  heard transition body none ships adds m =
      let b = brings_made ops r.state body h.held (DistinctDots-agree ops distinct) h.state h.set.within m in
      unissued transition b.delta none b.within (ap (fold join r.state) adds ∙ b.state) (subst (All (Means ops)) (sym adds) b.adds) (subst (BodiesMean ops) ships no_bodies)

  tick_made : (t : Table) (now : ℕ) (opening : Opening) → Left (ticks_by opening t r noted now)
  tick_made t now Shut = still (holds_back r now) refl refl no_bodies
  tick_made t now GiveUp = still (goes_down r GaveUp) refl refl no_bodies
  tick_made t now Opened =
      let sweep = sweep_of t r.origin noted now r.state in
      issued (looks_after r now sweep) sweep.ops refl refl (claims_issued t r.origin noted now r.state) no_bodies

-- an event brings a node only meanings of issued operations
abbrev Comes : List Operation → Event → Type 0
Comes ops (Hear m) = Means ops (content_of m.body)
Comes ops (HearOp o) = IsOperationOf o ops
Comes ops _ = Unit {0}

one_means : (ops : List Operation) (o : Operation) → IsOperationOf o ops → Means ops (meaning_of (o ∷ []))
one_means ops o i = record { some = o ∷ []; within = λ x j. subst (λ (y : Operation). IsOperationOf y ops) (sym (one_in x o j)) i; is = refl }

running_made : (t : Table) (ops : List Operation) (n : NodeId) (last : ℕ) (r : RunningValue) (noted : List (Option Noted)) (e : Event) (distinct : DistinctDots ops) (h : RunsMade ops n last r) → Comes ops e → Left ops n last r distinct h noted (transition_of t r noted e)
running_made t ops n last r noted (Boot now) distinct h comes = still ops n last r distinct h noted (keeps r (Heard false) []) refl refl (no_bodies ops n last r distinct h noted)
running_made t ops n last r noted Crash distinct h comes = still ops n last r distinct h noted (goes_down r Crashed) refl refl (no_bodies ops n last r distinct h noted)
running_made t ops n last r noted (Commanded c) distinct h comes =
    let o = next_operation r.state r.origin (act_of t r.state c) in
    issued ops n last r distinct h noted (issues r o) (o ∷ []) refl refl ((act_of t r.state c, refl), tt) (no_bodies ops n last r distinct h noted)
running_made t ops n last r noted (Tick now) distinct h comes = tick_made ops n last r distinct h noted t now (opening_at t r now)
running_made t ops n last r noted (Ship to) distinct h comes =
    still ops n last r distinct h noted (ships r to) refl refl
    (All-cons (λ (m : Message). Means ops (content_of m.body)) (message_of r to) [] (body_means ops n last r distinct h noted (begins r.peers r.state r.kept.base to)) (no_bodies ops n last r distinct h noted))
running_made t ops n last r noted (Hear m) distinct h comes = heard ops n last r distinct h noted (hears_message t r m) (content_of m.body) refl refl refl comes
running_made t ops n last r noted (HearOp o) distinct h comes = heard ops n last r distinct h noted (hears_state r (meaning_of (o ∷ []))) (meaning_of (o ∷ [])) refl refl refl (one_means ops o comes)

step_made : (t : Table) (ops : List Operation) (n : NodeId) (last : ℕ) (running : Option RunningValue) (noted : List (Option Noted)) (e : Event) → DistinctDots ops → NodeMade ops n (record { last = last; running = running }) → Comes ops e →
    StepMade ops n (left_by t n last running noted e) (reply_by t n last running noted e)
step_made t ops n last None noted e distinct h comes = boot_made t ops n last noted e distinct h.old
step_made t ops n last (Some r) noted e distinct h comes = running_made t ops n last r noted e distinct (h.runs r refl) comes

-- ---- a step of the world
-- a property of each message holds of the one with this number
counted_means : (P : Message → Type 0) (ms : List Message) (k : ℕ) (m : Message) → All P ms → counted ms k ≡ Some m → P m
counted_means P ms k m all e = elim (nat_eq k 0) as (λ b. cond b None (slice_get ms (k - 1)) ≡ Some m → P m) [
  | true ↦ λ p. none_some p
  | false ↦ λ p. at ms (k - 1) all p
] e
  where
    at : (ms : List Message) (k : ℕ) → All P ms → slice_get ms k ≡ Some m → P m
    at [] k all e = none_some e
    at (x ∷ ms) zero all e = subst P (some_same x m e) (All-head P x ms all)
    at (x ∷ ms) (suc k) all e = at ms k (All-tail P x ms all) e

-- the body of the message with this number
pub bodies_mean : (v : WorldValue) (k : ℕ) (m : Message) → IsMade v → counted v.messages k ≡ Some m → Means v.operations (content_of m.body)
bodies_mean v k m h there = counted_means (λ (x : Message). Means v.operations (content_of x.body)) v.messages k m h.bodies there

comes : (v : WorldValue) (what : What) (e : Event) → IsMade v → event_of v.operations v.messages what ≡ Ok e → Comes v.operations e
comes v what (Hear m) h is =
    let d = hears v.operations v.messages what m is in
    bodies_mean v d.number m h d.there
comes v what (HearOp o) h is = let d = hears_op v.operations v.messages what o is in counted_in v.operations d.number o d.there
comes v what _ h is = tt

-- after an accepted event the world is still made of issued operations
pub goes_made : (t : Table) (v u : WorldValue) (me : NodeId) (what : What) (e : Event) (old : NodeValue) (become : NodeValue → NodeValue) (own given : Reply) → IsMade v → event_of v.operations v.messages what ≡ Ok e → Here v me old →
    AcceptedAs t me old e (become old) own → Goes v me become own given u → IsMade u
goes_made t v u me what e old become own given h is here p goes =
    let ops = v.operations in
    let s : StepMade ops me (become old) own = subst (λ (q : NodeValue × Reply). StepMade ops me q.0 q.1) (λ i. (sym p.left i, sym p.reply i)) (step_made t ops me old.last old.running p.noted e h.distinct (h.nodes me.0 old here.there) (comes v what e h is)) in
    let grown : ops ++ issued_by own ≡ u.operations = sym goes.operations in
    record {
      distinct = subst DistinctDots grown s.distinct;
      nodes = λ n x at. subst (λ qs. NodeMade qs (numbered n) x) grown (each s n x (sym (goes.nodes.each n ∙ changed_at v.nodes me old become here.there (become old) refl n) ∙ at));
      bodies = subst (λ (q : List Operation × List Message). BodiesMean q.0 q.1) (λ i. (grown i, sym goes.messages i))
          (All-append (λ (m : Message). Means (ops ++ issued_by own) (content_of m.body)) v.messages (shipped_by own) (bodies_more ops (issued_by own) v.messages h.bodies) (bodies_more ops (issued_by own) (shipped_by own) s.shipped));
    }
  where
    same_number : (k me : NodeId) (n : ℕ) → k ≡ me → k ≡ numbered n → nat_eq n me.0 ≡ true
    same_number k me n a b = eq-eqb n me.0 (ap (λ (q : NodeId). q.0) (sym b ∙ a))

    each : StepMade v.operations me (become old) own → (n : ℕ) (x : NodeValue) → cond (nat_eq n me.0) (Some (become old)) (slice_get v.nodes n) ≡ Some x → NodeMade (v.operations ++ issued_by own) (numbered n) x
    each s n x = elim (nat_eq n me.0) as (λ b. nat_eq n me.0 ≡ b → cond b (Some (become old)) (slice_get v.nodes n) ≡ Some x → NodeMade (v.operations ++ issued_by own) (numbered n) x) [
      | true ↦ λ t at. subst (λ (q : NodeId × NodeValue). NodeMade (v.operations ++ issued_by own) q.0 q.1) (λ i. (record { 0 = sym (exact_unsigned_eq n me.0 t) i }, some_same (become old) x at i)) s.node
      | false ↦ λ f at. node_more v.operations (issued_by own) (numbered n) x (λ o i t. true≢false (sym (same_number o.dot.origin.node me n (s.mine o i) t) ∙ f)) (h.nodes n x at)
    ] refl

-- ---- the start
-- nodes that are off, before anything is issued
none_made : (n : NodeId) (x : NodeValue) → x.running ≡ None → NodeMade [] n x
none_made n x off = record { old = λ o i t. absurd i; runs = λ r e. none_some (sym off ∙ e) }

-- the program's world at the start
pub start_made : (t : Table) (v : WorldValue) → Shows t (start t) v → IsMade v
start_made t v h = record {
  distinct = subst DistinctDots (sym h.operations) tt;
  nodes = λ n x at. subst (λ qs. NodeMade qs (numbered n) x) (sym h.operations) (none_made (numbered n) x (off (nat_lt n (node_count t)) x (sym (h.nodes n) ∙ at)));
  bodies = subst (λ (q : List Operation × List Message). BodiesMean q.0 q.1) (λ i. (sym h.operations i, sym h.messages i)) (All-nil (λ (m : Message). Means [] (content_of m.body)));
}
  where
    off : (b : Bool) (x : NodeValue) → cond b (Some (shown t (off_after 0))) None ≡ Some x → x.running ≡ None
    off true x e = ap (λ (y : NodeValue). y.running) (sym (some_same (shown t (off_after 0)) x e))
    off false x e = none_some e

-- ---- the states of such a world mean issued operations
-- the state of a running node
pub states_mean : (v : WorldValue) (n : ℕ) (x : NodeValue) → IsMade v → slice_get v.nodes n ≡ Some x → IfSome (state_of x) (Means v.operations)
states_mean v n x h at = elim x.running as (λ o. x.running ≡ o → IfSome (option_map (λ (r : RunningValue). r.state) o) (Means v.operations)) [
  | None ↦ λ _. tt
  | Some r ↦ λ e. let k = (h.nodes n x at).runs r e in record { some = k.held; within = k.set.within; is = k.state }
] refl
