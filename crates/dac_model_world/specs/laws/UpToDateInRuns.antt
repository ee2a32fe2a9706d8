-- A node to which a ship is refused as up to date has all of the sender's set.
use Rattle.std.proofs.Common.{◌≡◌, ℕ, ◌≤◌, Bool, true, false, not, cond, ◌&&◌, List, [], ◌∷◌, length, Option, Some, None, Ok, Err, nat_eq, nat_le, inl, inr, refl, sym, ap, subst, ◌∙◌, true≢false}
use Rattle.dac_model_world.specs.laws.Common.{nat_lt, option_map, option_and_then, drop_of_length-le, NodeId, Life, StateValue, IsOperationOf, Table, WorldEvent, What, Ship, Reply, Refusal, Off, OnSelf, first, Position, PeersValue, begins, has_all, acked_by, acked_at, kept_from, ModelRunning, joined, shown, running_shown, refusal_of, refusal_by, step_by, accepted, some_same, NoSuchNode, Refused, ModelWorld, happens, happens_by, answered_by, event_of, out_of_memory, Step, Run, SetWorld, set_step, HasAll, TellsUpToDate, TellUpToDate}
use Rattle.std.specs.FinMap as map
use Rattle.std.specs.FinSet as set
use Rattle.std.proofs.lemmas.Bool.{leb-true}
use Rattle.dac_events.specs.declared.refusal.Refusal.TheVariants.{UnknownNode, UpToDate}
use Rattle.dac_commands.specs.Causes.{no_node}
use Rattle.dac_model_node.specs.Peers.{is_up_to_date}
use Rattle.dac_model_world.specs.laws.Gathered.{Entries, gathered, gathered_cases, log_length}
use Rattle.dac_model_world.specs.laws.Covers.{Covered}
use Rattle.dac_model_world.specs.laws.Carried.{none_some, begins_is}
use Rattle.dac_model_world.specs.laws.Runs.{run_first}
use Rattle.dac_model_world.specs.laws.Sound.{Answer, Sound, seen, held_at, sound_step}

-- ---- where the sender's interval begins
-- the life of the node that the position for an interval names
record Known (s : StateValue) (to : NodeId) (p : Position) : Type 0 where
  life : Life
  known : map.get s.lives to ≡ Some life
  inc : p.inc ≡ life.inc

begins_known : (p : PeersValue) (s : StateValue) (base : ℕ) (to : NodeId) (q : Position) → begins p s base to ≡ Some q → Known s to q
begins_known p s base to q e = kept (acked_at p s to) refl e
  where
    inc_is : (life : Life) (c : Option ℕ) → option_map (λ (n : ℕ). record { inc = life.inc; number = n }) c ≡ Some q → q.inc ≡ life.inc
    inc_is life None e = none_some e
    inc_is life (Some a) e = ap (λ (z : Position). z.inc) (sym (some_same (record { inc = life.inc; number = a }) q e))

    known_is : acked_at p s to ≡ Some q → Known s to q
    known_is e =
        let life = there (map.get s.lives to) refl e in
        record { life = life.0; known = life.1.0; inc = inc_is life.0 (map.get p.acked (record { node = to; inc = life.0.inc })) life.1.1 }
      where
        there : (o : Option Life) → map.get s.lives to ≡ o → option_and_then (acked_by p to) o ≡ Some q → (life : Life) × ((map.get s.lives to ≡ Some life) × (acked_by p to life ≡ Some q))
        there None is e = none_some e
        there (Some life) is e = (life, (is, e))

    kept : (c : Option Position) → acked_at p s to ≡ c → kept_from base c ≡ Some q → Known s to q
    kept None is e = none_some e
    kept (Some r) is e = elim (nat_le base r.number) as (λ b. cond b (Some r) None ≡ Some q → Known s to q) [
      | true ↦ λ h. known_is (is ∙ h)
      | false ↦ λ h. none_some h
    ] e

-- an up-to-date node has a position, with no state after it
all_from : (p : PeersValue) (s : StateValue) (base count : ℕ) (to : NodeId) → is_up_to_date p s base count to ≡ true → (q : Position) × ((begins p s base to ≡ Some q) × (count ≤ q.number))
all_from p s base count to e = by_place (begins p s base to) refl (left (has_all count (begins p s base to)) (not (set.contains p.owed to)) e)
  where
    left : (a b : Bool) → (a && b) ≡ true → a ≡ true
    left true b h = refl
    left false b h = absurd (true≢false (sym h))

    by_place : (o : Option Position) → begins p s base to ≡ o → has_all count o ≡ true → (q : Position) × ((begins p s base to ≡ Some q) × (count ≤ q.number))
    by_place None is h = absurd (true≢false (sym h))
    by_place (Some q) is h = (q, (is, leb-true count q.number h))

-- ---- one ship
ship_refused : (a b c : Bool) → first ((a, UnknownNode) ∷ (b, OnSelf) ∷ (c, UpToDate) ∷ []) ≡ Some UpToDate → c ≡ true
ship_refused true b c e = cc
ship_refused false true c e = cc
ship_refused false false true e = refl
ship_refused false false false e = cc

-- the sender runs, and nothing needs to be shipped
all_had : (w : ModelWorld) (s : SetWorld) (n to : NodeId) (r : ModelRunning) → Sound w s → (w.node n).running ≡ Some r → is_up_to_date r.peers (joined r.log) r.base (length r.log) to ≡ true → HasAll s n to
all_had w s n to r h on up =
    let from = all_from r.peers (joined r.log) r.base (length r.log) to up in
    let q = from.0 in
    let held = held_at w s n r h on in
    let es = h.entries n in
    let k = begins_known r.peers (joined r.log) r.base to q from.1.0 in
    let b = begins_is r.peers (joined r.log) r.base to q from.1.0 in
    let v = seen w.node s.node h.entries in
    let covered : Covered (v n) (v to) (w.node n).last q.number q.inc = (h.peers n r on).acked (record { node = to; inc = q.inc }) q.number b.acked in
    let past : length es ≤ q.number = subst (λ l. l ≤ q.number) (log_length r.log held.set.operations es held.log) from.1.1 in
    record {
      mine = held.set;
      on = held.is;
      life = k.life;
      known = subst (λ (x : StateValue). map.get x.lives to ≡ Some k.life) held.state k.known;
      has = λ theirs there same o i. elim (gathered_cases q.number es o (held.log.some o i)) [
        | inl a ↦ (covered.has held.set held.is refl o a).has theirs there (sym ((h.nodes to).inc theirs there) ∙ same ∙ sym k.inc)
        | inr c ↦ absurd (subst (λ (rest : Entries). IsOperationOf o (gathered rest)) (drop_of_length-le es past) c)
      ];
    }

no_reply : (reply : Reply) → ◌≡◌ {A = Answer} (Ok reply) (Err (Refused UpToDate)) → ⊥
no_reply reply e = cc

no_node_so : ◌≡◌ {A = Answer} (Err NoSuchNode) (Err (Refused UpToDate)) → ⊥
no_node_so e = cc

same_why : (why : Refusal) → ◌≡◌ {A = Answer} (Err (Refused why)) (Err (Refused UpToDate)) → Some why ≡ Some UpToDate
same_why why e = cc

-- the node refuses the ship as up to date
refused_so : (t : Table) (w : ModelWorld) (n to : NodeId) (b : Bool) → (cond b (happens_by t w n (Ok (Ship to))) (record { world = w; answer = Err NoSuchNode })).answer ≡ Err (Refused UpToDate) → refusal_of t (shown t (w.node n)) (Ship to) ≡ Some UpToDate
refused_so t w n to false e = absurd (no_node_so e)
refused_so t w n to true e = by_refusal (refusal_of t (shown t (w.node n)) (Ship to)) e
  where
    by_run : (running : Option ModelRunning) → (answered_by w n (accepted t n (w.node n).last running (Ship to)).node (accepted t n (w.node n).last running (Ship to)).answer).answer ≡ Err (Refused UpToDate) → ⊥
    by_run None e = no_reply _ e
    by_run (Some r) e = no_reply _ e

    by_refusal : (o : Option Refusal) → (answered_by w n (step_by o t n (w.node n) (Ship to)).node (step_by o t n (w.node n) (Ship to)).answer).answer ≡ Err (Refused UpToDate) → o ≡ Some UpToDate
    by_refusal None e = absurd (by_run (w.node n).running e)
    by_refusal (Some why) e = same_why why e

up_happens : (t : Table) (w : ModelWorld) (s : SetWorld) (e : WorldEvent) → Sound w s → TellsUpToDate s e (happens t w e).answer
up_happens t w s e h is to ships =
    let n = e.node in
    let refused = refused_so t w n to (nat_lt n.0 w.count) (subst (λ (what : What). (cond (nat_lt n.0 w.count) (happens_by t w n (event_of w.operations w.messages what)) (record { world = w; answer = Err NoSuchNode })).answer ≡ Err (Refused UpToDate)) ships is) in
    by_run (w.node n).running refl refused
  where
    off : Some Off ≡ Some UpToDate → ⊥
    off p = cc

    by_run : (running : Option ModelRunning) → (w.node e.node).running ≡ running → refusal_by t (w.node e.node).last (option_map (running_shown t) running) (Ship to) ≡ Some UpToDate → HasAll s e.node to
    by_run None on p = absurd (off p)
    by_run (Some r) on p = all_had w s e.node to r h on (ship_refused (no_node t to) (nat_eq to.0 r.origin.node.0) (is_up_to_date r.peers (joined r.log) r.base (length r.log) to) p)

up_step : (t : Table) (w : ModelWorld) (s : SetWorld) (e : WorldEvent) (a : Answer) (next : ModelWorld) → Sound w s → Step w (happens t w e) a next → TellsUpToDate s e a
up_step t w s e a next h (inl d) = subst (TellsUpToDate s e) (sym d.answered) (up_happens t w s e h)
up_step t w s e a next h (inr l) = subst (TellsUpToDate s e) (sym l.answered) (λ other. absurd (no other))
  where
    no : out_of_memory ≡ Err (Refused UpToDate) → ⊥
    no p = cc

-- ships are refused as up to date only if the receiver has all, in every run of the model world
pub up_to_date_run : (t : Table) (w : ModelWorld) (s : SetWorld) (es : List WorldEvent) (answers : List Answer) (final : ModelWorld) → Sound w s → Run t w es answers final → TellUpToDate s es answers
up_to_date_run t w s [] answers final h r = tt
up_to_date_run t w s (e ∷ es) [] final h r = tt
up_to_date_run t w s (e ∷ es) (a ∷ answers) final h run =
    let r = run_first t w e es a answers final run in
    (up_step t w s e a r.0 h r.1.0, up_to_date_run t r.0 (set_step s e.node e.what a) es answers final (sound_step t w s e a r.0 h r.1.0) r.1.1)
