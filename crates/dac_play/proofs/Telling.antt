-- A line `share` is an anti-entropy round, unless dots are used up: every running node ships to every other one. A ship
-- is refused only as up to date. Each message is delivered at once and accepted, because it's addressed to the
-- receiver's present incarnation.
use Rattle.std.proofs.Common.{◌≡◌, ◌⊎◌, ℕ, ◌+◌, ◌<◌, ◌≤◌, Bool, true, false, cond, List, [], ◌∷◌, ◌++◌, length, take, drop, suc, Option, Some, None, Result, Ok, Err, nat_eq, refl, sym, ap, subst, ◌∙◌, inl, inr, arith, ltb-true, ltb-false}
use Rattle.dac_play.proofs.Common.{◌≢◌, option_map, false≢true, lt-ltb, length-append, NodeId, Table, node_count, WorldEvent, Reply, set_run, no_sets, StateValue, not, option_and_then, IsListed, TellsEachOther, HasState, shipping, delivery, delivered, deliveries, telling}
use Rattle.std.specs.Prelude.{nat_lt, is_some, IsTrue}
use Rattle.std.proofs.lemmas.Bool.{lt-leb}
use Rattle.std.proofs.lemmas.Map.Views.{exact_unsigned_eq}
use Rattle.std.proofs.Math.Seq.{take-append_seam, drop-append_seam, take-length}
use Rattle.dac_origins.specs.declared.dot.Origin.{Origin}
use Rattle.dac_operations.specs.Operations.{Operation}
use Rattle.dac_events.specs.declared.What.{What}
use Rattle.dac_events.specs.declared.What.TheVariants.{Ship as Ships, Deliver}
use Rattle.dac_messages.specs.declared.message.Message.{Message}
use Rattle.dac_messages.specs.declared.event.Event.{Event}
use Rattle.dac_messages.specs.declared.event.Event.TheVariants.{Ship}
use Rattle.dac_messages.specs.declared.reply.Reply.TheVariants.{Shipped, Heard}
use Rattle.dac_commands.specs.Causes.{first, no_node}
use Rattle.dac_events.specs.declared.refusal.Refusal.{Refusal}
use Rattle.dac_events.specs.declared.refusal.Refusal.TheVariants.{UnknownNode, OnSelf, UpToDate}
use Rattle.dac_events.specs.declared.world_fault.WorldFault.{WorldFault}
use Rattle.dac_events.specs.declared.world_fault.WorldFault.TheVariants.{NoSuchNode, Refused}
use Rattle.dac_peers.specs.Peers.{PeersValue, acked_by, begins, is_up_to_date, kept_from}
use Rattle.dac_model_node.specs.ModelNode.{ModelNode, ModelRunning, joined, running_shown, shown}
use Rattle.dac_model_node.specs.EventRefusals.{refusal_of, refusal_by}
use Rattle.dac_model_node.specs.Transitions.{message_of}
use Rattle.dac_model_node.specs.Step.{model_step, step_by}
use Rattle.dac_model_world.specs.ModelWorld.{counted, ModelWorld, WorldStepped, happens, happens_by, answered_by, event_of, start}
use Rattle.dac_model_world.specs.SetWorld.{SetWorld, NodeSet, Copy, copied_by, set_step, united, brought_to}
use Rattle.dac_model_world.specs.Convergence.{state_by}
use Rattle.dac_model_world.specs.EveryList.{answers_of, run_from}
use Rattle.dac_model_world.specs.Fits.{RunsIn, IsHeard, IsCopyFor}
use Rattle.dac_model_world.specs.Shares.{TellsAll, InShare, AreInShare, IsShare, KnowPresent, HaveUnion}
use Rattle.dac_model_world.specs.laws.Carried.{CopiesOk}
use Rattle.dac_model_world.specs.laws.Covers.{Seen}
use Rattle.dac_model_world.specs.laws.EveryList.{own_run}
use Rattle.dac_model_world.specs.laws.OneNode.{state_in}
use Rattle.dac_model_world.specs.laws.FewInRuns.{IsFew}
use Rattle.dac_model_world.specs.laws.HeardInRuns.{Inside, inside_happens, heard_happens}
use Rattle.dac_model_world.specs.laws.IssuingInRuns.{numbered_start, issued_run}
use Rattle.dac_model_world.specs.laws.Sharing.{counted_last, Shared, shared_first, from_now, knows_present, next_event}
use Rattle.dac_model_world.specs.laws.UnitingInRuns.{unite_run}
use Rattle.dac_model_world.specs.Uniting.{Unites}
use Rattle.dac_model_node.specs.laws.Options.{some_same}
use Rattle.dac_chains.specs.declared.lives.Life.{Life}
use Rattle.dac_meaning.specs.Meaning.{meaning_of}
use Rattle.dac_peers.specs.declared.positions.Position.{Position}
use Rattle.std.specs.FinMap as map
use Rattle.std.proofs.lemmas.Bool.{and_from}
use Rattle.std.specs.Prelude.{◌&&◌, nat_le}
use Rattle.std.specs.Option.{option_map_or}
use Rattle.std.proofs.Common.{eq-eqb}
use Rattle.dac_events.specs.declared.refusal.Refusal.TheVariants.{DotsUsedUp}
use Rattle.dac_model_world.specs.laws.SharesInRuns.{all_present, shares_run}
use Rattle.dac_model_world.specs.laws.Sound.{Sound, held_at, seen, sound_happens, sound_run, sound_start}
use Rattle.dac_play.specs.Sharing.{state_in as state_in_world}
use Rattle.dac_play.specs.Runs.{HaveNumbers}

abbrev Answer : Type 0
Answer = Result Reply WorldFault

none_some : {X : Type 0} {v : X} {Y : Type 0} → ◌≡◌ {A = Option X} None (Some v) → Y
none_some e = cc

-- ---- lists of results
answers_append : (t : Table) (w : ModelWorld) (es fs : List WorldEvent) → answers_of t w (es ++ fs) ≡ answers_of t w es ++ answers_of t (run_from t w es) fs
answers_append t w [] fs = refl
answers_append t w (e ∷ es) fs = ap (λ more. (happens t w e).answer ∷ more) (answers_append t (happens t w e).world es fs)

as_many : (t : Table) (w : ModelWorld) (es : List WorldEvent) → length es ≡ length (answers_of t w es)
as_many t w [] = refl
as_many t w (e ∷ es) = ap (λ n. suc n) (as_many t (happens t w e).world es)

-- ---- the number of messages
as_many_copies : (ops : List Operation) (v : NodeId → Seen) (ms : List Message) (cs : List Copy) → CopiesOk ops v ms cs → length ms ≡ length cs
as_many_copies ops v [] [] h = refl
as_many_copies ops v [] (c ∷ cs) h = absurd h
as_many_copies ops v (m ∷ ms) [] h = absurd h
as_many_copies ops v (m ∷ ms) (c ∷ cs) h = ap (λ n. suc n) (as_many_copies ops v ms cs h.1)

-- ---- running nodes
run_there : (w : ModelWorld) (s : SetWorld) (n : NodeId) → Sound w s → RunsIn s n → (r : ModelRunning) × ((w.node n).running ≡ Some r)
run_there w s n h runs = by_run (w.node n).running refl ((h.nodes n).state ∙ ap (option_map state_by) runs.1)
  where
    by_run : (running : Option ModelRunning) → (w.node n).running ≡ running → option_map state_in running ≡ Some (state_by runs.0) → (r : ModelRunning) × ((w.node n).running ≡ Some r)
    by_run None on e = none_some e
    by_run (Some r) on e = (r, on)

set_there : (w : ModelWorld) (s : SetWorld) (n : NodeId) (r : ModelRunning) → Sound w s → (w.node n).running ≡ Some r → RunsIn s n
set_there w s n r h on = by_set (s.node n) refl (sym (h.nodes n).state ∙ ap (option_map state_in) on)
  where
    by_set : (o : Option NodeSet) → s.node n ≡ o → option_map state_by o ≡ Some (state_in r) → RunsIn s n
    by_set None at e = none_some e
    by_set (Some set) at e = (set, at)

-- ---- a ship between two nodes
module _ (t : Table) (w : ModelWorld) (from to : NodeId) (r : ModelRunning) (on : (w.node from).running ≡ Some r) (inside : nat_lt from.0 w.count ≡ true) (known : no_node t to ≡ false) (other : nat_eq to.0 r.origin.node.0 ≡ false) where
  abbrev by_ship : WorldStepped
  by_ship = happens t w (shipping (from, to))

  stepped : Option Refusal → Option ModelRunning → WorldStepped
  stepped why running = let st = step_by why t from (record { last = (w.node from).last; running = running }) (Ship to) in answered_by w from st.node st.answer

  abbrev IsUpOrShipped : WorldStepped → Type 0
  IsUpOrShipped by = (by.answer ≡ Err (Refused UpToDate)) ⊎ (by.answer ≡ Ok (Shipped (message_of (running_shown t r) to)))

  by_test : (b : Bool) → IsUpOrShipped (stepped (first ((b, UpToDate) ∷ [])) (Some r))
  unfolding stepped
  by_test true = inl refl
  by_test false = inr refl

  why_is : refusal_of t (shown t (w.node from)) (Ship to) ≡ first ((is_up_to_date r.peers (joined r.log) (running_shown t r).kept.base (running_shown t r).kept.count to, UpToDate) ∷ [])
  why_is =
      ap (λ running. refusal_by t (w.node from).last (option_map (running_shown t) running) (Ship to)) on
      ∙ (λ i. first ((known i, UnknownNode) ∷ (other i, OnSelf) ∷ (is_up_to_date r.peers (joined r.log) (running_shown t r).kept.base (running_shown t r).kept.count to, UpToDate) ∷ []))

  up_or_shipped : IsUpOrShipped by_ship
  unfolding stepped
  up_or_shipped =
      let b = is_up_to_date r.peers (joined r.log) (running_shown t r).kept.base (running_shown t r).kept.count to in
      let is : by_ship ≡ stepped (first ((b, UpToDate) ∷ [])) (Some r) =
      (λ i. cond (inside i) (happens_by t w from (event_of w.operations w.messages (Ships to))) (record { world = w; answer = Err NoSuchNode }))
      ∙ (λ i. stepped (why_is i) (on i)) in
      subst IsUpOrShipped (sym is) (by_test b)

-- ---- one pair, and all
-- the share's requirement: the world and the world of sets correspond, and the configuration has this many nodes
record Holds (t : Table) (w : ModelWorld) (s : SetWorld) : Type 0 where
  sound : Sound w s
  count : w.count ≡ node_count t
  inside : Inside w.count s

-- two different nodes of the configuration, both running
record IsPair (t : Table) (s : SetWorld) (pair : NodeId × NodeId) : Type 0 where
  from : RunsIn s pair.0
  to : RunsIn s pair.1
  from_there : pair.0.0 < node_count t
  to_there : pair.1.0 < node_count t
  apart : pair.0 ≢ pair.1

count_stays : (t : Table) (w : ModelWorld) (e : WorldEvent) → (happens t w e).world.count ≡ w.count
count_stays t w e = by_node (nat_lt e.node.0 w.count)
  where
    by_answer : (n : NodeId) (d : ModelNode) (a : Result Reply Refusal) → (answered_by w n d a).world.count ≡ w.count
    by_answer n d (Err why) = refl
    by_answer n d (Ok reply) = refl

    by_event : (n : NodeId) (r : Result Event WorldFault) → (happens_by t w n r).world.count ≡ w.count
    by_event n (Err fault) = refl
    by_event n (Ok at) = by_answer n (model_step t n (w.node n) at).node (model_step t n (w.node n) at).answer

    by_node : (b : Bool) → (cond b (happens_by t w e.node (event_of w.operations w.messages e.what)) (record { world = w; answer = Err NoSuchNode })).world.count ≡ w.count
    by_node true = by_event e.node (event_of w.operations w.messages e.what)
    by_node false = refl

holds_on : (t : Table) (w : ModelWorld) (s : SetWorld) (e : WorldEvent) → Holds t w s → Holds t (happens t w e).world (set_step s e.node e.what (happens t w e).answer)
holds_on t w s e h = record { sound = sound_happens t w s e h.sound; count = count_stays t w e ∙ h.count; inside = inside_happens t w s h.inside e }

-- the sets that one event unites
unites_on : (t : Table) (w : ModelWorld) (s : SetWorld) (e : WorldEvent) → Sound w s → Unites s e.node e.what (happens t w e).answer
unites_on t w s e h = (unite_run t w s (e ∷ []) (answers_of t w (e ∷ [])) (run_from t w (e ∷ [])) h (own_run t w (e ∷ []))).0

-- the acknowledgement from which a message continues belongs to the incarnation that the sender knows
only_for : (p : PeersValue) (s : StateValue) (base inc : ℕ) (to : NodeId) → ((life : Life) → map.get s.lives to ≡ Some life → life.inc ≡ inc) → option_map_or (λ only. nat_eq only inc) (option_map (λ (q : Position). q.inc) (begins p s base to)) true ≡ true
only_for p s base inc to know = by_life (map.get s.lives to) refl
  where
    by_place : (b : Bool) (life : Life) (a : ℕ) → life.inc ≡ inc → option_map_or (λ only. nat_eq only inc) (option_map (λ (q : Position). q.inc) (cond b (Some (record { inc = life.inc; number = a })) None)) true ≡ true
    by_place true life a is = eq-eqb life.inc inc is
    by_place false life a is = refl

    by_number : (life : Life) → life.inc ≡ inc → (o : Option ℕ) → option_map_or (λ only. nat_eq only inc) (option_map (λ (q : Position). q.inc) (kept_from base (option_map (λ (n : ℕ). record { inc = life.inc; number = n }) o))) true ≡ true
    by_number life is None = refl
    by_number life is (Some a) = by_place (nat_le base a) life a is

    by_life : (o : Option Life) → map.get s.lives to ≡ o → option_map_or (λ only. nat_eq only inc) (option_map (λ (q : Position). q.inc) (kept_from base (option_and_then (acked_by p to) o))) true ≡ true
    by_life None e = refl
    by_life (Some life) e = by_number life (know life e) (map.get p.acked (record { node = to; inc = life.inc }))

-- a running node keeps running after a delivery
runs_on : (s : SetWorld) (n : NodeId) (what : What) (fresh : Bool) (m : NodeId) → RunsIn s m → RunsIn (set_step s n what (Ok (Heard fresh))) m
runs_on s n what fresh m runs = by_test (nat_eq m.0 n.0) refl
  where
    more : (o : Option NodeSet) (os : List Operation) → ((x : NodeSet) × (o ≡ Some x)) → (x : NodeSet) × (united o os ≡ Some x)
    more None os x = none_some x.1
    more (Some held) os x = (_, refl)

    by_test : (b : Bool) → nat_eq m.0 n.0 ≡ b → (x : NodeSet) × (cond b (united (s.node n) (brought_to s n what)) (s.node m) ≡ Some x)
    by_test true t = more (s.node n) (brought_to s n what) (runs.0, ap s.node (sym (λ i. record { 0 = exact_unsigned_eq m.0 n.0 t i })) ∙ runs.1)
    by_test false t = runs

-- In a share that begins in this world of sets, each running node knows the present incarnation of every other one or
-- nothing of its life.
module _ (t : Table) (begin : SetWorld) (present : (n m : NodeId) (mine theirs : NodeSet) → begin.node n ≡ Some mine → begin.node m ≡ Some theirs → (life : Life) → map.get (meaning_of mine.operations).lives m ≡ Some life → life.inc ≡ theirs.inc) where
  abbrev before : ℕ
  before = length begin.copies

  abbrev IsMid : SetWorld → Type 0
  IsMid = Shared begin present

  -- a node's knowledge of another one during the share is of its present incarnation
  knows_now : (w : ModelWorld) (s : SetWorld) (from to : NodeId) (r : ModelRunning) (theirs : NodeSet) → Sound w s → IsMid s → (w.node from).running ≡ Some r → s.node to ≡ Some theirs → (life : Life) → map.get (joined r.log).lives to ≡ Some life → life.inc ≡ theirs.inc
  knows_now w s from to r theirs h mid on at life e = by_begin (begin.node to) refl
    where
      by_begin : (o : Option NodeSet) → begin.node to ≡ o → life.inc ≡ theirs.inc
      by_begin None off = none_some (sym (mid.off to off) ∙ at)
      by_begin (Some then) there =
          let mine = held_at w s from r h on in
          let kept = mid.runs to then there in
          knows_present begin present mine.set.operations (from_now begin present s mid from mine.set mine.is) to then there life (ap (λ (u : StateValue). map.get u.lives to) (sym mine.state) ∙ e)
          ∙ sym kept.grows.same
          ∙ ap (λ (x : NodeSet). x.inc) (some_same kept.grows.now theirs (sym kept.grows.on ∙ at))

  -- these events from this world belong to a share, and ship between each pair so that the receiver has it all
  record Shares (w : ModelWorld) (s : SetWorld) (all : List (NodeId × NodeId)) (es : List WorldEvent) (answers : List Answer) : Type 0 where
    fits : AreInShare before es answers
    tells : (pair : NodeId × NodeId) → IsListed pair all → TellsAll s pair.0 pair.1 es answers

  abbrev ArePairs : SetWorld → List (NodeId × NodeId) → Type 0
  ArePairs s all = (pair : NodeId × NodeId) → IsListed pair all → IsPair t s pair

  pairs_same : (s next : SetWorld) (all : List (NodeId × NodeId)) → ((m : NodeId) → RunsIn s m → RunsIn next m) → ArePairs s all → ArePairs next all
  pairs_same s next all on are pair i = let p = are pair i in record { from = on pair.0 p.from; to = on pair.1 p.to; from_there = p.from_there; to_there = p.to_there; apart = p.apart }

  other_by : (from to node : NodeId) → node ≡ from → from ≢ to → nat_eq to.0 node.0 ≡ false
  other_by from to node is apart = by_test (nat_eq to.0 node.0) refl
    where
      by_test : (b : Bool) → nat_eq to.0 node.0 ≡ b → b ≡ false
      by_test true e = absurd (apart (sym is ∙ sym (λ i. record { 0 = exact_unsigned_eq to.0 node.0 e i })))
      by_test false e = refl

  -- the events of a pair after the ship's result, and those of the later pairs
  abbrev after_ship : NodeId × NodeId → List (NodeId × NodeId) → WorldStepped → List WorldEvent
  after_ship pair all by = deliveries pair.1 by ++ telling t (delivered t pair.1 by) all

  abbrev TellingShares : List (NodeId × NodeId) → Type 0
  TellingShares all = (w : ModelWorld) (s : SetWorld) → Holds t w s → IsMid s → ArePairs s all → before ≤ length s.copies → HaveNumbers (answers_of t w (telling t w all)) → Shares w s all (telling t w all) (answers_of t w (telling t w all))

  module _ (pair : NodeId × NodeId) (all : List (NodeId × NodeId)) (w : ModelWorld) (s : SetWorld) (h : Holds t w s) (mid : IsMid s) (are : ArePairs s (pair ∷ all)) (le : before ≤ length s.copies) (rest : TellingShares all) (r : ModelRunning) (on : (w.node pair.0).running ≡ Some r) where
    -- the goal for each result of the ship
    abbrev Goal : WorldStepped → Type 0
    Goal by = Shares w s (pair ∷ all) (shipping pair ∷ after_ship pair all by) (by.answer ∷ answers_of t by.world (after_ship pair all by))

    abbrev HeardOf : WorldStepped → Type 0
    HeardOf by = HaveNumbers (by.answer ∷ answers_of t by.world (after_ship pair all by))

    abbrev Given : WorldStepped → Type 0
    Given by = Holds t by.world (set_step s pair.0 (Ships pair.1) by.answer) → Unites s pair.0 (Ships pair.1) by.answer → HeardOf by → Goal by

    up_to_date : (world : ModelWorld) → Given (record { world = world; answer = Err (Refused UpToDate) })
    up_to_date world k put heard =
        let more = rest world s k mid (λ q i. are q (inr i)) le heard.1 in
        record {
          fits = (tt, more.fits);
          tells = λ q i. elim i [
            | inl is ↦ inl (ap shipping (sym is), refl)
            | inr later ↦ inr (more.tells q later)
          ];
        }

    abbrev m : Message
    m = message_of (running_shown t r) pair.1

    module _ (world : ModelWorld) (k : Holds t world (set_step s pair.0 (Ships pair.1) (Ok (Shipped m)))) (put : Unites s pair.0 (Ships pair.1) (Ok (Shipped m))) where
      abbrev shipped_sets : SetWorld
      shipped_sets = set_step s pair.0 (Ships pair.1) (Ok (Shipped m))

      abbrev number : ℕ
      number = length world.messages

      abbrev by_delivery : WorldStepped
      by_delivery = happens t world (delivery number pair.1)

      abbrev heard_sets : Answer → SetWorld
      heard_sets a = set_step shipped_sets pair.1 (Deliver number) a

      from_here : RunsIn s pair.0
      from_here = (are pair (inl refl)).from

      number_is : number ≡ length s.copies + 1
      number_is =
          as_many_copies world.operations (seen world.node shipped_sets.node k.sound.entries) world.messages shipped_sets.copies k.sound.copies
          ∙ ap (λ o. length (s.copies ++ copied_by o pair.0 m)) from_here.1
          ∙ length-append s.copies (copied_by (Some from_here.0) pair.0 m)

      since : before < number
      since = let is = number_is in omega arith

      more_copies : before ≤ length shipped_sets.copies
      more_copies = let l = length-append s.copies (copied_by (s.node pair.0) pair.0 m) in omega arith

      mid_shipped : IsMid shipped_sets
      mid_shipped = (next_event begin present s mid pair.0 (Ships pair.1) (Ok (Shipped m)) tt put).shared

      -- the copy in flight is addressed to the other node
      abbrev copy : Copy
      copy = record { from = pair.0; to = pair.1; only = m.only; operations = from_here.0.operations }

      to_here : RunsIn s pair.1
      to_here = (are pair (inl refl)).to

      is_copy : IsCopyFor shipped_sets pair.1 number
      is_copy = record {
        copy = copy;
        there = (λ i. counted (s.copies ++ copied_by (from_here.1 i) pair.0 m) (number_is i)) ∙ counted_last s.copies copy;
        fits = λ held at.
            and_from (nat_eq pair.1.0 pair.1.0) (not (nat_eq pair.0.0 pair.1.0) && option_map_or (λ only. nat_eq only held.inc) m.only true) (eq-eqb pair.1.0 pair.1.0 refl)
            (and_from (not (nat_eq pair.0.0 pair.1.0)) (option_map_or (λ only. nat_eq only held.inc) m.only true) (ap not (other_by pair.1 pair.0 pair.1 refl (λ e. (are pair (inl refl)).apart (sym e))))
            (only_for r.peers (joined r.log) (running_shown t r).kept.base held.inc pair.1 (knows_now w s pair.0 pair.1 r held h.sound mid on at)));
      }

      deltas : NodeId → ℕ
      deltas n = option_map_or (λ (q : ModelRunning). length q.log) (world.node n).running 0

      few : IsFew deltas world
      unfolding deltas
      few n q there = let same : length q.log ≤ length q.log = omega arith in subst (λ (running : Option ModelRunning). length q.log ≤ option_map_or (λ (x : ModelRunning). length x.log) running 0) (sym there) same

      is_heard : by_delivery.answer ≢ Err (Refused DotsUsedUp) → IsHeard by_delivery.answer
      is_heard numbers = elim (heard_happens t world shipped_sets deltas (delivery number pair.1) k.sound few k.inside to_here is_copy) [
        | inl heard ↦ heard
        | inr full ↦ absurd (numbers full.0)
      ]

      on_its_way : HeardOf (record { world = world; answer = Ok (Shipped m) }) → Goal (record { world = world; answer = Ok (Shipped m) })
      on_its_way numbers =
          let fresh = is_heard numbers.1.0 in
          let mid_heard : IsMid (heard_sets by_delivery.answer) = (next_event begin present shipped_sets mid_shipped pair.1 (Deliver number) by_delivery.answer (subst (λ a. InShare before (Deliver number) a) (sym fresh.1) since) (unites_on t world shipped_sets (delivery number pair.1) k.sound)).shared in
          let stays : (n : NodeId) → RunsIn s n → RunsIn (heard_sets by_delivery.answer) n = λ n runs. subst (λ a. RunsIn (heard_sets a) n) (sym fresh.1) (runs_on shipped_sets pair.1 (Deliver number) fresh.0 n runs) in
          let more = rest by_delivery.world (heard_sets by_delivery.answer) (holds_on t world shipped_sets (delivery number pair.1) k) mid_heard (pairs_same s (heard_sets by_delivery.answer) all stays (λ q i. are q (inr i))) (subst (λ a. before ≤ length (heard_sets a).copies) (sym fresh.1) more_copies) numbers.1.1 in
          record {
            fits = (tt, (subst (λ a. InShare before (Deliver number) a) (sym fresh.1) since, more.fits));
            tells = λ q i. elim i [
              | inl is ↦ inl (ap shipping (sym is), inl (λ j. record { node = (sym is j).1; what = Deliver (number_is j) }, fresh))
              | inr later ↦ inr (inr (more.tells q later))
            ];
          }

    by_answer : (by : WorldStepped) → (by.answer ≡ Err (Refused UpToDate)) ⊎ (by.answer ≡ Ok (Shipped m)) → Given by
    by_answer by (inl is) = subst (λ a. Given (record { world = by.world; answer = a })) (sym is) (up_to_date by.world)
    by_answer by (inr is) = subst (λ a. Given (record { world = by.world; answer = a })) (sym is) (on_its_way by.world)

  telling_shares : (all : List (NodeId × NodeId)) → TellingShares all
  telling_shares [] w s h mid are le heard = record { fits = tt; tells = λ pair i. absurd i }
  telling_shares (pair ∷ all) w s h mid are le heard =
      let p = are pair (inl refl) in
      let running = run_there w s pair.0 h.sound p.from in
      let own : nat_eq pair.1.0 running.0.origin.node.0 ≡ false = other_by pair.0 pair.1 running.0.origin.node (ap (λ (o : Origin). o.node) ((h.sound.nodes pair.0).origin running.0 running.1)) p.apart in
      let inside : pair.0.0 < w.count = subst (λ n. pair.0.0 < n) (sym h.count) p.from_there in
      by_answer pair all w s h mid are le (telling_shares all) running.0 running.1 (happens t w (shipping pair))
      (up_or_shipped t w pair.0 pair.1 running.0 running.1 (lt-ltb pair.0.0 w.count inside) (lt-leb (node_count t) pair.1.0 p.to_there) own)
      (holds_on t w s (shipping pair) h) (unites_on t w s (shipping pair) h.sound) heard

-- ---- the pairs of a share
-- a node beyond the configuration never runs
never_runs : (t : Table) (n : NodeId) (es : List WorldEvent) (w : ModelWorld) → w.count ≤ n.0 → (w.node n).running ≡ None → ((run_from t w es).node n).running ≡ None
never_runs t n [] w le off = off
never_runs t n (e ∷ es) w le off = never_runs t n es (happens t w e).world (subst (λ c. c ≤ n.0) (sym (count_stays t w e)) le) (stays (nat_lt e.node.0 w.count) refl)
  where
    elsewhere : (d : ModelNode) → nat_lt e.node.0 w.count ≡ true → (b : Bool) → nat_eq n.0 e.node.0 ≡ b → (cond b d (w.node n)).running ≡ None
    elsewhere d inside true same = absurd (apart e.node.0 n.0 w.count (ltb-true e.node.0 w.count inside) le (exact_unsigned_eq n.0 e.node.0 same))
      where
        apart : (k m c : ℕ) → k < c → c ≤ m → m ≡ k → ⊥
        apart k m c lt above is = omega arith
    elsewhere d inside false other = off

    by_reply : (d : ModelNode) (a : Result Reply Refusal) → nat_lt e.node.0 w.count ≡ true → ((answered_by w e.node d a).world.node n).running ≡ None
    by_reply d (Err why) inside = off
    by_reply d (Ok reply) inside = elsewhere d inside (nat_eq n.0 e.node.0) refl

    by_event : (r : Result Event WorldFault) → nat_lt e.node.0 w.count ≡ true → ((happens_by t w e.node r).world.node n).running ≡ None
    by_event (Err fault) inside = off
    by_event (Ok at) inside = by_reply (model_step t e.node (w.node e.node) at).node (model_step t e.node (w.node e.node) at).answer inside

    stays : (b : Bool) → nat_lt e.node.0 w.count ≡ b → ((cond b (happens_by t w e.node (event_of w.operations w.messages e.what)) (record { world = w; answer = Err NoSuchNode })).world.node n).running ≡ None
    stays true inside = by_event (event_of w.operations w.messages e.what) inside
    stays false outside = off

count_run : (t : Table) (es : List WorldEvent) (w : ModelWorld) → (run_from t w es).count ≡ w.count
count_run t [] w = refl
count_run t (e ∷ es) w = count_run t es (happens t w e).world ∙ count_stays t w e

-- ---- from the start
module _ (t : Table) (es : List WorldEvent) (all : List (NodeId × NodeId)) where
  abbrev here : ModelWorld
  here = run_from t (start t) es

  abbrev answers : List Answer
  answers = answers_of t (start t) es

  abbrev sets : SetWorld
  sets = set_run no_sets es answers

  abbrev share : List WorldEvent
  share = telling t here all

  abbrev replies : List Answer
  replies = answers_of t here share

  sound_here : Sound here sets
  sound_here = sound_run t (start t) no_sets es answers here (sound_start t) (own_run t (start t) es)

  is_inside : (n : NodeId) (r : ModelRunning) → (here.node n).running ≡ Some r → n.0 < here.count
  is_inside n r on = by_test (nat_lt n.0 here.count) refl
    where
      by_test : (b : Bool) → nat_lt n.0 here.count ≡ b → n.0 < here.count
      by_test true e = ltb-true n.0 here.count e
      by_test false e = none_some (sym (never_runs t n es (start t) (subst (λ c. c ≤ n.0) (count_run t es (start t)) (ltb-false n.0 here.count e)) refl) ∙ on)

  holds_here : Holds t here sets
  holds_here = record { sound = sound_here; count = count_run t es (start t); inside = λ n runs. let r = run_there here sets n sound_here runs in lt-ltb n.0 here.count (is_inside n r.0 r.1) }

  module _ (each_other : TellsEachOther (HasState (state_in_world here) here.count) all) (numbers : HaveNumbers replies) (know : KnowPresent sets) where
    runs_if : (n : NodeId) → HasState (state_in_world here) here.count n → RunsIn sets n
    runs_if n has = by_run (here.node n).running refl has.1
      where
        by_run : (running : Option ModelRunning) → (here.node n).running ≡ running → IsTrue (is_some (option_map (λ (r : ModelRunning). joined r.log) running)) → RunsIn sets n
        by_run None on is = absurd (false≢true is)
        by_run (Some r) on is = set_there here sets n r holds_here.sound on

    has_if : (n : NodeId) → RunsIn sets n → HasState (state_in_world here) here.count n
    has_if n runs =
        let r = run_there here sets n holds_here.sound runs in
        (is_inside n r.0 r.1, ap (λ running. is_some (option_map (λ (r : ModelRunning). joined r.log) running)) r.1)

    are_pairs : (pair : NodeId × NodeId) → IsListed pair all → IsPair t sets pair
    are_pairs pair i =
        let p = (each_other.each pair.0 pair.1).0 i in
        record { from = runs_if pair.0 p.0; to = runs_if pair.1 p.1.0; from_there = subst (λ c. pair.0.0 < c) holds_here.count p.0.0; to_there = subst (λ c. pair.1.0 < c) holds_here.count p.1.0.0; apart = p.1.1 }

    is_share : IsShare sets share replies
    is_share =
        let numbered = (issued_run t (start t) no_sets es answers here (sound_start t) (numbered_start t) (own_run t (start t) es)).1 in
        let present = all_present here sets sound_here numbered know in
        let shares = telling_shares t sets present all here sets holds_here (shared_first sets present) are_pairs (omega arith) numbers in
        record { fits = shares.fits; tells = λ from to a b apart. shares.tells (from, to) ((each_other.each from to).1 (has_if from a, (has_if to b, apart))) }

    abbrev Leaves : (List WorldEvent × List Answer) × (List WorldEvent × List Answer) → Type 0
    Leaves p = let w = set_run no_sets p.0.0 p.0.1 in KnowPresent w → IsShare w p.1.0 p.1.1 → HaveUnion w (set_run w p.1.0 p.1.1)

    pub telling_unites : HaveUnion sets (set_run sets share replies)
    telling_unites =
        let events = es ++ share in
        let all_answers = answers_of t (start t) events in
        let split : all_answers ≡ answers ++ replies = answers_append t (start t) es share in
        let long : length es ≡ length answers = as_many t (start t) es in
        let more : length share ≡ length replies = as_many t here share in
        let first_answers : take (length es) all_answers ≡ answers = (λ i. take (long i) (split i)) ∙ take-append_seam answers replies in
        let these : take (length share) (drop (length es) events) ≡ share = ap (take (length share)) (drop-append_seam es share) ∙ take-length share in
        let those : take (length share) (drop (length es) all_answers) ≡ replies = (λ i. take (more i) (drop (long i) (split i))) ∙ ap (take (length replies)) (drop-append_seam answers replies) ∙ take-length replies in
        subst Leaves (λ i. ((take-append_seam es share i, first_answers i), (these i, those i)))
        (shares_run t events all_answers (run_from t (start t) events) (own_run t (start t) events) (length es) (length share)) know is_share
