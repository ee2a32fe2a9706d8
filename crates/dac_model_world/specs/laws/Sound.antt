-- The model world refines the world of sets: the invariant of the two after every event. Each node agrees with its set
-- (see OneNode), and each message with its copy. The peer tables agree with the nodes' logs (see Carried), and dots are
-- distinct.
use Rattle.std.proofs.Common.{◌≡◌, ℕ, zero, suc, ◌≤◌, ◌+◌, ◌-◌, Bool, true, false, not, cond, ◌&&◌, ◌⊎◌, inl, inr, List, [], ◌∷◌, ◌++◌, length, drop, drop-drop, Option, Some, None, Result, Ok, Err, nat_eq, nat_le, refl, sym, ap, subst, ◌∙◌, append-nil, true≢false, eq-eqb, le_refl, arith}
use Rattle.dac_model_world.specs.laws.Common.{nat_lt, option_map, option_map_or, slice_get, false_from_ne_true, map-append, drop_of_length-le, exact_unsigned_eq, NodeId, Origin, Operation, StateValue, meaning_of, IsOperationOf, AreOperationsOf, DotsDetermine, In-append_left, In-append_right, Table, Opening, Shut, Opened, GiveUp, Noted, Note, waits_of, WorldEvent, What, Deliver, Hand, Position, begins, ack_for, heard_from, Body, Interval, Nothing, Message, content_of, Event, Boot, Crash, Tick, Ship, Hear, HearOp, Reply, OnSelf, NotForMe, DotsUsedUp, first, act_of, next_operation, sweep_of, AreIssued, RunningValue, ModelNode, ModelRunning, joined, shown, running_shown, refusal_of, refusal_by, overflows, meanings, brings, body_from, message_of, ticks_by, opening_at, moment_of, note_of, step_by, up, comes_up, goes_on, accepted, some_same, WorldFault, NoSuchNode, ModelWorld, happens, happens_by, answered_by, event_of, handed_by, with_node, Step, Run, start, SetWorld, NodeSet, Issue, Copy, with_set, and_more, united, held_by, issues_of, operations_of, copied_by, copied_to, is_for, alone, brought_to, booting, issuing, going_off, set_step, set_run, no_sets, DistinctDots, claims_issued}
use Rattle.std.proofs.lemmas.Bool.{leb-true}
use Rattle.dac_messages.specs.declared.event.Event.TheVariants.{Command as Commanded}
use Rattle.dac_model_node.specs.EventRefusals.{refusal_to_hear}
use Rattle.dac_model_world.specs.ModelWorld.{heard_by, counted}
use Rattle.dac_model_world.specs.laws.Operations.{one_in, DistinctDots-agree, DistinctDots-push}
use Rattle.dac_model_world.specs.laws.Gathered.{Entries, gathered, gathered-append, gathered_cases, gathered_take, gathered_drop, each_alone, IsLogOf, log_means, log_length, log_more, log_issued, rest_means}
use Rattle.dac_model_world.specs.laws.Covers.{Seen, Later, Later-self, later_more, Has, Covered, Sent, Sent-covers}
use Rattle.dac_model_world.specs.laws.Carried.{none_some, PeersOk, PeersOk-later, no_peers_ok, shipped_ok, Acknowledges, heard_ok, ack_ok, begins_is, Bound, CopyOk, CopyOk-later, CopiesOk, CopiesOk-later, CopiesOk-push, message_copy, brought}
use Rattle.dac_model_world.specs.laws.Runs.{run_first}
use Rattle.dac_model_world.specs.laws.OneNode.{own_origin, runs_as, stays_off, NodeOk, HeldBy, held_of, run_ok, off_ok, SetOk, NodeOk-more, boot_set, boot_log, boot_fresh, Grown, grow, hear_set}

abbrev pub Answer : Type 0
Answer = Result Reply WorldFault

-- ---- the invariant
-- each node as seen by the others
abbrev pub seen : (NodeId → ModelNode) → (NodeId → Option NodeSet) → (NodeId → Entries) → NodeId → Seen
seen node sets entries n = record { last = (node n).last; on = sets n; entries = entries n }

-- the two worlds, and for each node the sets that the states of its log mean
pub record Sound (w : ModelWorld) (s : SetWorld) : Type 0 where
  pub entries : NodeId → Entries
  pub nodes : (n : NodeId) → NodeOk w.operations n (w.node n) (s.node n) (entries n)
  pub issued : operations_of s.issued ≡ w.operations
  pub peers : (n : NodeId) (r : ModelRunning) → (w.node n).running ≡ Some r → PeersOk (seen w.node s.node entries) n (w.node n).last r.peers
  pub copies : CopiesOk w.operations (seen w.node s.node entries) w.messages s.copies
  pub distinct : DistinctDots w.operations

-- ---- one node changes
abbrev with_entries : (NodeId → Entries) → NodeId → Entries → NodeId → Entries
with_entries entries n es m = cond (nat_eq m.0 n.0) es (entries m)

same_node : (m n : NodeId) → nat_eq m.0 n.0 ≡ true → m ≡ n
same_node m n e = ap (λ k. record { 0 = k }) (exact_unsigned_eq m.0 n.0 e)

other_node : (m n : NodeId) → nat_eq m.0 n.0 ≡ false → m ≡ n → ⊥
other_node m n f e = true≢false (sym (eq-eqb m.0 n.0 (ap (λ (k : NodeId). k.0) e)) ∙ f)

-- the set of a node after it is replaced, and that of any other
pub put_at : (sets : NodeId → Option NodeSet) (n : NodeId) (held : Option NodeSet) → with_set sets n held n ≡ held
put_at sets n held = ap (λ b. cond b held (sets n)) (eq-eqb n.0 n.0 refl)

pub put_elsewhere : (sets : NodeId → Option NodeSet) (n : NodeId) (held : Option NodeSet) (m : NodeId) → (m ≡ n → ⊥) → with_set sets n held m ≡ sets m
put_elsewhere sets n held m far = ap (λ b. cond b held (sets m)) (false_from_ne_true (nat_eq m.0 n.0) (λ t. far (same_node m n t)))

none_in : (o : Operation) → IsOperationOf o [] → ⊥
none_in o h = h

module _ (w : ModelWorld) (s : SetWorld) (n : NodeId) (h : Sound w s) where
  -- P holds of each later moment at which node n is seen as x
  abbrev Onward : Seen → ((NodeId → Seen) → Type 0) → Type 0
  Onward x P = (v : NodeId → Seen) → v n ≡ x → ((m : NodeId) → Later (seen w.node s.node h.entries m) (v m)) → P v

  -- Node n goes on to d, with this set and these entries; it issues qs and ships ms.
  sound_next : (d : ModelNode) (held : Option NodeSet) (es : Entries) (sets : NodeId → Option NodeSet) (issued : List Issue) (qs : List Operation) (ms : List Message) (cs : List Copy) →
      let x : Seen = record { last = d.last; on = held; entries = es } in
      sets n ≡ held → ((m : NodeId) → (m ≡ n → ⊥) → sets m ≡ s.node m) → operations_of issued ≡ w.operations ++ qs → ((o : Operation) → IsOperationOf o qs → o.dot.origin.node ≡ n) →
      Later (seen w.node s.node h.entries n) x → NodeOk (w.operations ++ qs) n d held es →
      Onward x (λ v. (r : ModelRunning) → d.running ≡ Some r → PeersOk v n d.last r.peers) → Onward x (λ v. CopiesOk (w.operations ++ qs) v (w.messages ++ ms) cs) → DistinctDots (w.operations ++ qs) →
      Sound (record { count = w.count; node = with_node w.node n d; operations = w.operations ++ qs; messages = w.messages ++ ms }) (record { node = sets; issued = issued; copies = cs })
  sound_next d held es sets issued qs ms cs put far all mine later here peers copies distinct =
      let u : NodeId → Seen = seen w.node s.node h.entries in
      let v : NodeId → Seen = seen (with_node w.node n d) sets (with_entries h.entries n es) in
      let t : nat_eq n.0 n.0 ≡ true = eq-eqb n.0 n.0 refl in
      let now : v n ≡ record { last = d.last; on = held; entries = es } = λ i. record { last = (cond (t i) d (w.node n)).last; on = put i; entries = cond (t i) es (h.entries n) } in
      let on : (m : NodeId) → Later (u m) (v m) = λ m.
      elim (nat_eq m.0 n.0) as (λ b. nat_eq m.0 n.0 ≡ b → Later (u m) (record { last = (cond b d (w.node m)).last; on = sets m; entries = cond b es (h.entries m) })) [
        | true ↦ λ e. subst (λ k. Later (u k) (record { last = d.last; on = sets k; entries = es })) (sym (same_node m n e))
            (subst (λ (o : Option NodeSet). Later (u n) (record { last = d.last; on = o; entries = es })) (sym put) later)
        | false ↦ λ f. subst (λ (o : Option NodeSet). Later (u m) (record { last = (w.node m).last; on = o; entries = h.entries m })) (sym (far m (other_node m n f))) (Later-self (u m))
      ] refl in
      record {
        entries = with_entries h.entries n es;
        nodes = λ m. elim (nat_eq m.0 n.0) as (λ b. nat_eq m.0 n.0 ≡ b → NodeOk (w.operations ++ qs) m (cond b d (w.node m)) (sets m) (cond b es (h.entries m))) [
          | true ↦ λ e. subst (λ k. NodeOk (w.operations ++ qs) k d (sets k) es) (sym (same_node m n e)) (subst (λ (o : Option NodeSet). NodeOk (w.operations ++ qs) n d o es) (sym put) here)
          | false ↦ λ f.
              let ne = other_node m n f in
              subst (λ (o : Option NodeSet). NodeOk (w.operations ++ qs) m (w.node m) o (h.entries m)) (sym (far m ne)) (NodeOk-more w.operations qs m (w.node m) (s.node m) (h.entries m) (λ o i e. ne (sym e ∙ mine o i)) (h.nodes m))
        ] refl;
        issued = all;
        peers = λ m. elim (nat_eq m.0 n.0) as (λ b. nat_eq m.0 n.0 ≡ b → (r : ModelRunning) → (cond b d (w.node m)).running ≡ Some r → PeersOk v m (cond b d (w.node m)).last r.peers) [
          | true ↦ λ e r p. subst (λ k. PeersOk v k d.last r.peers) (sym (same_node m n e)) (peers v now on r p)
          | false ↦ λ _ r p. PeersOk-later u v m (w.node m).last r.peers on (h.peers m r p)
        ] refl;
        copies = copies v now on;
        distinct = distinct;
      }

  -- nothing is shipped
  same_copies : (qs : List Operation) (v : NodeId → Seen) → ((m : NodeId) → Later (seen w.node s.node h.entries m) (v m)) → CopiesOk (w.operations ++ qs) v (w.messages ++ []) s.copies
  same_copies qs v on = subst (λ ms. CopiesOk (w.operations ++ qs) v ms s.copies) (sym (append-nil w.messages)) (CopiesOk-later w.operations (w.operations ++ qs) (seen w.node s.node h.entries) v w.messages s.copies (λ o i. In-append_left o w.operations qs i) on h.copies)

-- the operations of the issues of these operations
operations-issues_of : (before os : List Operation) → operations_of (issues_of before os) ≡ os
operations-issues_of before [] = refl
operations-issues_of before (o ∷ os) = ap (λ rest. o ∷ rest) (operations-issues_of (before ++ o ∷ []) os)

-- more issues
issued_more : (ops more before : List Operation) (issued : List Issue) → operations_of issued ≡ ops → operations_of (issued ++ issues_of before more) ≡ ops ++ more
issued_more ops more before issued is = map-append (λ (i : Issue). i.operation) issued (issues_of before more) ∙ (λ i. is i ++ operations-issues_of before more i)

-- telling events apart
pub no_message : {P : Type 0} (m : Option Message) (e : Event) → ((l : Message) → Hear l ≡ e → ⊥) → heard_by m ≡ Ok e → P
no_message None e other p = cc
no_message (Some l) e other p = absurd (other l cc)

pub no_operation : {P : Type 0} (o : Option Operation) (e : Event) → ((x : Operation) → HearOp x ≡ e → ⊥) → handed_by o ≡ Ok e → P
no_operation None e other p = cc
no_operation (Some x) e other p = absurd (other x cc)

-- the number of the message delivered
pub record Delivers (ms : List Message) (what : What) (m : Message) : Type 0 where
  pub number : ℕ
  pub is : what ≡ Deliver number
  pub there : counted ms number ≡ Some m

pub hears : (os : List Operation) (ms : List Message) (what : What) (m : Message) → event_of os ms what ≡ Ok (Hear m) → Delivers ms what m
hears os ms (Deliver k) m e = record { number = k; is = refl; there = yes (counted ms k) e }
  where
    yes : (o : Option Message) → heard_by o ≡ Ok (Hear m) → o ≡ Some m
    yes None p = cc
    yes (Some l) p = cc
hears os ms (Hand k) m e = no_operation (counted os k) (Hear m) (λ x p. cc) e
hears os ms _ m e = cc

-- the number of the operation handed
pub record Hands (os : List Operation) (what : What) (o : Operation) : Type 0 where
  pub number : ℕ
  pub is : what ≡ Hand number
  pub there : counted os number ≡ Some o

pub hears_op : (os : List Operation) (ms : List Message) (what : What) (o : Operation) → event_of os ms what ≡ Ok (HearOp o) → Hands os what o
hears_op os ms (Deliver k) o e = no_message (counted ms k) (HearOp o) (λ l p. cc) e
hears_op os ms (Hand k) o e = record { number = k; is = refl; there = yes (counted os k) e }
  where
    yes : (x : Option Operation) → handed_by x ≡ Ok (HearOp o) → x ≡ Some o
    yes None p = cc
    yes (Some l) p = cc
hears_op os ms _ o e = cc

-- an operation with a number is one of them
slice_get_in : (os : List Operation) (k : ℕ) (o : Operation) → slice_get os k ≡ Some o → IsOperationOf o os
slice_get_in [] k o e = absurd (none_some e)
  where
    none_some : None ≡ Some o → ⊥
    none_some p = cc
slice_get_in (x ∷ os) zero o e = inl (sym (some_same x o e))
slice_get_in (x ∷ os) (suc k) o e = inr (slice_get_in os k o e)

pub counted_in : (os : List Operation) (k : ℕ) (o : Operation) → counted os k ≡ Some o → IsOperationOf o os
counted_in os k o e =
    elim (nat_eq k 0) as (λ b. cond b None (slice_get os (k - 1)) ≡ Some o → IsOperationOf o os) [
      | true ↦ λ p. absurd (no p)
      | false ↦ λ p. slice_get_in os (k - 1) o p
    ] e
  where
    no : None ≡ Some o → ⊥
    no p = cc

-- ---- a running node and its set
pub held_at : (w : ModelWorld) (s : SetWorld) (n : NodeId) (r : ModelRunning) (h : Sound w s) → (w.node n).running ≡ Some r → HeldBy w.operations n (w.node n).last r (s.node n) (h.entries n)
held_at w s n r h on =
    let same : w.node n ≡ runs_as (w.node n).last r = λ i. record { last = (w.node n).last; running = on i } in
    held_of w.operations n (w.node n).last r (s.node n) (h.entries n) (subst (λ d. NodeOk w.operations n d (s.node n) (h.entries n)) same (h.nodes n))

-- the same incarnation with more states in its log
record Adds (r : ModelRunning) (adds : List StateValue) (after : ModelRunning) : Type 0 where
  origin : after.origin ≡ r.origin
  log : after.log ≡ r.log ++ adds

-- ---- deliveries to a node
-- the reasons for which a message isn't refused
pub record Accepts (n : NodeId) (last : ℕ) (m : Message) : Type 0 where
  pub to : nat_eq m.to.0 n.0 ≡ true
  pub from : nat_eq m.from.node.0 n.0 ≡ false
  pub only : option_map_or (λ inc. nat_eq inc last) m.only true ≡ true

pub accepts : (n : NodeId) (last : ℕ) (m : Message) (r : RunningValue) → r.origin ≡ own_origin n last → refusal_to_hear r m ≡ None → Accepts n last m
accepts n last m r mine none =
    let three = passes (nat_eq m.from.node.0 r.origin.node.0) (nat_eq m.to.0 r.origin.node.0) (option_map_or (λ inc. nat_eq inc r.origin.inc) m.only true) (overflows r (content_of m.body)) none in
    record {
      to = (λ i. nat_eq m.to.0 (sym mine i).node.0) ∙ three.1.0;
      from = (λ i. nat_eq m.from.node.0 (sym mine i).node.0) ∙ three.0;
      only = (λ i. option_map_or (λ inc. nat_eq inc (sym mine i).inc) m.only true) ∙ three.1.1;
    }
  where
    passes : (a b c d : Bool) → first ((a, OnSelf) ∷ (not (b && c), NotForMe) ∷ (d, DotsUsedUp) ∷ []) ≡ None → (a ≡ false) × ((b ≡ true) × (c ≡ true))
    passes true b c d e = cc
    passes false true true d e = (refl, (refl, refl))
    passes false true false d e = cc
    passes false false c d e = cc

-- a message that a running node accepts
pub heard_accepts : (t : Table) (w : ModelWorld) (s : SetWorld) (n : NodeId) (r : ModelRunning) (h : Sound w s) → (w.node n).running ≡ Some r → (m : Message) → refusal_of t (shown t (w.node n)) (Hear m) ≡ None → Accepts n (w.node n).last m
heard_accepts t w s n r h on m none =
    accepts n (w.node n).last m (running_shown t r) (held_at w s n r h on).mine (ap (λ (l : Option ModelRunning). refusal_by t (w.node n).last (option_map (running_shown t) l) (Hear m)) (sym on) ∙ none)

-- The operations that an event brings to a node with this set in the world of sets, and the state that it brings. The
-- state means a part of them, and the node has the rest.
pub record Brings (w : ModelWorld) (s : SetWorld) (n : NodeId) (what : What) (body : StateValue) (os : List Operation) : Type 0 where
  pub operations : List Operation
  pub brought : brought_to s n what ≡ operations
  pub within : AreOperationsOf operations w.operations
  pub delta : List Operation
  pub means : body ≡ meaning_of delta
  pub inside : AreOperationsOf delta operations
  pub rest : (o : Operation) → IsOperationOf o operations → IsOperationOf o delta ⊎ IsOperationOf o os

module _ (w : ModelWorld) (s : SetWorld) (n : NodeId) (what : What) (m : Message) (r : ModelRunning) (h : Sound w s) (on : (w.node n).running ≡ Some r) where
  -- an accepted message's copy is for the node
  pub goes_in : (c : Copy) → CopyOk w.operations (seen w.node s.node h.entries) m c → Accepts n (w.node n).last m → is_for n (held_at w s n r h on).set.inc c ≡ true
  goes_in c k ok =
      let held = held_at w s n r h on in
      (λ i. nat_eq (sym k.to i).0 n.0 && (not (nat_eq (sym k.from i).0 n.0) && option_map_or (λ inc. nat_eq inc (held.inc i)) (sym k.only i) true))
      ∙ (λ i. ok.to i && (not (ok.from i) && ok.only i))

  -- the incarnation that the message is bound to is the present one
  has_bound : (v : NodeId → Seen) (o : Operation) → Accepts n (w.node n).last m → v n ≡ seen w.node s.node h.entries n → Bound v m.to m.only o → IsOperationOf o (held_at w s n r h on).set.operations
  has_bound v o ok now b =
      let held = held_at w s n r h on in
      let mine : m.to ≡ n = same_node m.to n ok.to in
      let there : Has (seen w.node s.node h.entries n) b.inc o = subst (λ (x : Seen). Has x b.inc o) now (subst (λ k. Has (v k) b.inc o) mine b.has) in
      there.has held.set held.is (sym (exact_unsigned_eq b.inc (w.node n).last (ap (λ only. option_map_or (λ inc. nat_eq inc (w.node n).last) only true) (sym b.bound) ∙ ok.only)))

  pub brings_copy : event_of w.operations w.messages what ≡ Ok (Hear m) → Accepts n (w.node n).last m → Brings w s n what (content_of m.body) (held_at w s n r h on).set.operations
  brings_copy is ok =
      let d = hears w.operations w.messages what m is in
      let held = held_at w s n r h on in
      let c = message_copy w.operations (seen w.node s.node h.entries) w.messages s.copies d.number m h.copies d.there in
      let k = c.1.1 in
      record {
        operations = c.0.operations;
        brought = ap (brought_to s n) d.is ∙ ((λ i. copied_to n (held.is i) (c.1.0 i)) ∙ ap (λ b. cond b c.0.operations []) (goes_in c.0 k ok));
        within = k.within;
        delta = k.delta;
        means = k.body;
        inside = k.inside;
        rest = λ o i. elim (k.rest o i) [ inl a ↦ inl a | inr b ↦ inr (has_bound (seen w.node s.node h.entries) o ok refl b) ];
      }

pub brings_one : (w : ModelWorld) (s : SetWorld) (n : NodeId) (what : What) (o : Operation) (os : List Operation) → Sound w s → event_of w.operations w.messages what ≡ Ok (HearOp o) → Brings w s n what (meaning_of (o ∷ [])) os
brings_one w s n what o os h is =
    let d = hears_op w.operations w.messages what o is in
    record {
      operations = o ∷ [];
      brought = ap (brought_to s n) d.is ∙ (ap (λ os. alone (counted os d.number)) h.issued ∙ ap alone d.there);
      within = λ x i. subst (λ (y : Operation). IsOperationOf y w.operations) (sym (one_in x o i)) (counted_in w.operations d.number o d.there);
      delta = o ∷ [];
      means = refl;
      inside = λ x i. i;
      rest = λ x i. inl i;
    }

-- ---- shipped messages
-- the part of the sender's set that a message carries
record Part (v : NodeId → Seen) (body : Body) (only : Option ℕ) (to : NodeId) (os : List Operation) : Type 0 where
  delta : List Operation
  is : content_of body ≡ meaning_of delta
  inside : AreOperationsOf delta os
  rest : (o : Operation) → IsOperationOf o os → IsOperationOf o delta ⊎ Bound v to only o

-- an interval, or nothing, is the log from the number
interval_is : (t : Table) (r : ModelRunning) (p : Position) → r.base ≤ p.number → content_of (body_from (running_shown t r) (Some p)) ≡ joined (drop p.number r.log)
interval_is t r p kept =
    elim (nat_le (length r.log) p.number) as (λ b. nat_le (length r.log) p.number ≡ b → content_of (cond b Nothing (Interval (joined (drop (p.number - r.base) (drop r.base r.log))))) ≡ joined (drop p.number r.log)) [
      | true ↦ λ e. ap joined (sym (drop_of_length-le r.log (leb-true (length r.log) p.number e)))
      | false ↦ λ _. let to : r.base + (p.number - r.base) ≡ p.number = omega arith in ap joined (drop-drop (p.number - r.base) r.base r.log ∙ ap (λ k. drop k r.log) to)
    ] refl

module _ (ops : List Operation) (v : NodeId → Seen) (n : NodeId) (r : ModelRunning) (set : NodeSet) (agree : DotsDetermine ops) (inside : AreOperationsOf set.operations ops) (on : (v n).on ≡ Some set) (log : IsLogOf r.log set.operations (v n).entries) (ok : PeersOk v n (v n).last r.peers) where
  -- the whole state, or the interval from an acknowledged number
  part_of : (t : Table) (to : NodeId) (p : Option Position) → begins r.peers (joined r.log) r.base to ≡ p → Part v (body_from (running_shown t r) p) (option_map (λ (q : Position). q.inc) p) to set.operations
  part_of t to None e = record { delta = set.operations; is = log_means r.log set.operations ops (v n).entries inside agree log; inside = λ o i. i; rest = λ o i. inl i }
  part_of t to (Some p) e =
      let es = (v n).entries in
      let b = begins_is r.peers (joined r.log) r.base to p e in
      let has : Covered (v n) (v to) (v n).last p.number p.inc = ok.acked (record { node = to; inc = p.inc }) p.number b.acked in
      record {
        delta = gathered (drop p.number es);
        is = interval_is t r p b.kept ∙ rest_means r.log set.operations ops es p.number inside agree log;
        inside = λ o i. log.all o (gathered_drop p.number es o i);
        rest = λ o i. elim (gathered_cases p.number es o (log.some o i)) [
          | inl a ↦ inr (record { inc = p.inc; bound = refl; has = has.has set on refl o a })
          | inr c ↦ inl c
        ];
      }

  ship_copy : (t : Table) (to : NodeId) → r.origin ≡ own_origin n (v n).last → let m = message_of (running_shown t r) to in CopyOk ops v m (record { from = n; to = m.to; only = m.only; operations = set.operations })
  ship_copy t to mine =
      let p = part_of t to (begins r.peers (joined r.log) r.base to) refl in
      let es = (v n).entries in
      let long = log_length r.log set.operations es log in
      let here : Sent (v n) (v n).last (length r.log) set.operations = record {
        old = le_refl (v n).last;
        short = λ _ _ _. subst (λ k. k ≤ length es) (sym long) (le_refl (length es));
        has = λ _ _ _ o i. log.all o (gathered_take (length r.log) es o i);
      } in
      record {
        to = refl;
        from = ap (λ (q : Origin). q.node) mine;
        only = refl;
        within = inside;
        delta = p.delta;
        body = p.is;
        inside = p.inside;
        rest = p.rest;
        sent = subst (λ (q : Origin). Sent (v q.node) q.inc (length r.log) set.operations) (sym mine) here;
        ack = subst (λ (q : Origin). Acknowledges v q (ack_for r.peers to)) (sym mine) (ack_ok v n (v n).last r.peers to ok);
      }

-- ---- the effect of transitions
above_it : (l : ℕ) → l ≡ l + 1 → ⊥
above_it l e = omega arith

one_more : (l : ℕ) → l ≤ l + 1
one_more l = omega arith

module _ (w : ModelWorld) (s : SetWorld) (n : NodeId) (h : Sound w s) where
  nothing_issued : operations_of s.issued ≡ w.operations ++ []
  nothing_issued = h.issued ∙ sym (append-nil w.operations)

  all_distinct : DistinctDots (w.operations ++ [])
  all_distinct = subst DistinctDots (sym (append-nil w.operations)) h.distinct

  -- a node boots
  sound_boot : (now : ℕ) → let own = own_origin n ((w.node n).last + 1) in
      Sound (record { count = w.count; node = with_node w.node n (runs_as ((w.node n).last + 1) (comes_up own now)); operations = w.operations ++ up own ∷ []; messages = w.messages ++ [] })
      (booting s n (up own))
  sound_boot now =
      let last = (w.node n).last in
      let own : Origin = own_origin n (last + 1) in
      let x : Operation = up own in
      let old = (h.nodes n).old in
      let set : NodeSet = record { inc = last + 1; operations = x ∷ [] } in
      let distinct : DistinctDots (w.operations ++ x ∷ []) = DistinctDots-push w.operations x h.distinct (boot_fresh w.operations n last old) in
      sound_next w s n h (runs_as (last + 1) (comes_up own now)) (Some set) ((x ∷ []) ∷ []) (with_set s.node n (Some set)) (s.issued ++ issues_of [] (x ∷ [])) (x ∷ []) [] s.copies
      (put_at s.node n (Some set)) (put_elsewhere s.node n (Some set)) (issued_more w.operations (x ∷ []) [] s.issued h.issued) (λ o i. ap (λ (y : Operation). y.dot.origin.node) (one_in o x i))
      (record { last = one_more last; same = λ e. absurd (above_it last e) })
      (run_ok (w.operations ++ x ∷ []) n (last + 1) (comes_up own now) set ((x ∷ []) ∷ []) (DistinctDots-agree (w.operations ++ x ∷ []) distinct) refl refl (boot_log x) (boot_set w.operations n last old))
      (λ v _ _ r p. subst (λ (q : ModelRunning). PeersOk v n (last + 1) q.peers) (some_same (comes_up own now) r p) (no_peers_ok v n (last + 1)))
      (λ v _ on. same_copies w s n h (x ∷ []) v on)
      distinct

  -- a node goes off
  sound_off : Sound (record { count = w.count; node = with_node w.node n (stays_off (w.node n).last); operations = w.operations ++ []; messages = w.messages ++ [] }) (going_off s n)
  sound_off =
      let last = (w.node n).last in
      sound_next w s n h (stays_off last) None [] (with_set s.node n None) s.issued [] [] s.copies
      (put_at s.node n None) (put_elsewhere s.node n None) nothing_issued (λ o i. absurd (none_in o i))
      (record { last = le_refl last; same = λ _ k p. none_some p })
      (NodeOk-more w.operations [] n (stays_off last) None [] (λ o i. absurd (none_in o i)) (off_ok w.operations n last (h.nodes n).old))
      (λ v _ _ r p. none_some p)
      (λ v _ on. same_copies w s n h [] v on)
      all_distinct

  module _ (r : ModelRunning) (on : (w.node n).running ≡ Some r) (after : ModelRunning) where
    -- a running node goes on with more operations
    sound_grows : (set : NodeSet) (fs : Entries) (sets : NodeId → Option NodeSet) (issued : List Issue) (qs : List Operation) (ms : List Message) (cs : List Copy) →
        let last = (w.node n).last in
        let es = h.entries n ++ fs in
        let x : Seen = record { last = last; on = Some set; entries = es } in
        after.origin ≡ r.origin → set.inc ≡ last → AreOperationsOf (held_at w s n r h on).set.operations set.operations →
        sets n ≡ Some set → ((m : NodeId) → (m ≡ n → ⊥) → sets m ≡ s.node m) → operations_of issued ≡ w.operations ++ qs → ((o : Operation) → IsOperationOf o qs → o.dot.origin.node ≡ n) →
        IsLogOf after.log set.operations es → SetOk (w.operations ++ qs) n last set.operations →
        Onward w s n h x (λ v. PeersOk v n last after.peers) → Onward w s n h x (λ v. CopiesOk (w.operations ++ qs) v (w.messages ++ ms) cs) → DistinctDots (w.operations ++ qs) →
        Sound (record { count = w.count; node = with_node w.node n (runs_as last after); operations = w.operations ++ qs; messages = w.messages ++ ms }) (record { node = sets; issued = issued; copies = cs })
    sound_grows set fs sets issued qs ms cs origin inc more put far all mine log ok peers copies distinct =
        let last = (w.node n).last in
        let held = held_at w s n r h on in
        let es = h.entries n ++ fs in
        sound_next w s n h (runs_as last after) (Some set) es sets issued qs ms cs put far all mine
        (later_more (seen w.node s.node h.entries n) held.set set last (h.entries n) fs refl held.is refl more)
        (run_ok (w.operations ++ qs) n last after set es (DistinctDots-agree (w.operations ++ qs) distinct) (origin ∙ held.mine) inc log ok)
        (λ v now later q p. subst (λ (y : ModelRunning). PeersOk v n last y.peers) (some_same after q p) (peers v now later))
        copies distinct

    -- a running node adds nothing, and can ship
    sound_keep : (ms : List Message) (cs : List Copy) → Adds r [] after → ((v : NodeId → Seen) → PeersOk v n (w.node n).last r.peers → PeersOk v n (w.node n).last after.peers) →
        ((v : NodeId → Seen) → ((m : NodeId) → Later (seen w.node s.node h.entries m) (v m)) → CopiesOk (w.operations ++ []) v (w.messages ++ ms) cs) →
        Sound (record { count = w.count; node = with_node w.node n (runs_as (w.node n).last after); operations = w.operations ++ []; messages = w.messages ++ ms }) (record { node = s.node; issued = s.issued; copies = cs })
    sound_keep ms cs adds peers copies =
        let last = (w.node n).last in
        let held = held_at w s n r h on in
        let log : IsLogOf after.log held.set.operations (h.entries n ++ []) = subst (λ (p : List StateValue × Entries). IsLogOf p.0 held.set.operations p.1) (λ i. (sym (adds.log ∙ append-nil r.log) i, sym (append-nil (h.entries n)) i)) held.log in
        let ok : SetOk (w.operations ++ []) n last held.set.operations = subst (λ ops. SetOk ops n last held.set.operations) (sym (append-nil w.operations)) held.ok in
        sound_grows held.set [] s.node s.issued [] ms cs adds.origin held.inc (λ o i. i) held.is (λ _ _. refl) nothing_issued (λ o i. absurd (none_in o i)) log ok
        (λ v _ later. peers v (PeersOk-later (seen w.node s.node h.entries) v n last r.peers later (h.peers n r on)))
        (λ v _ later. copies v later)
        all_distinct

    -- a running node issues operations
    sound_issue : (more : List Operation) → Adds r (meanings more) after → after.peers ≡ r.peers → AreIssued r.origin (joined r.log) more →
        Sound (record { count = w.count; node = with_node w.node n (runs_as (w.node n).last after); operations = w.operations ++ more; messages = w.messages ++ [] }) (issuing s n more)
    sound_issue more adds peers issued =
        let last = (w.node n).last in
        let held = held_at w s n r h on in
        let os = held.set.operations in
        let set : NodeSet = and_more held.set more in
        let grown : Grown w.operations n last (joined r.log) os more = grow n last r.origin held.mine w.operations (joined r.log) os more held.state h.distinct held.ok issued in
        sound_grows set (each_alone more) (with_set s.node n (united (s.node n) more)) (s.issued ++ issues_of (held_by (s.node n)) more) more [] s.copies
        adds.origin held.inc (λ o i. In-append_left o os more i)
        (put_at s.node n (united (s.node n) more) ∙ ap (λ (o : Option NodeSet). united o more) held.is) (put_elsewhere s.node n (united (s.node n) more))
        (issued_more w.operations more (held_by (s.node n)) s.issued h.issued) grown.here
        (subst (λ (l : List StateValue). IsLogOf l (os ++ more) (h.entries n ++ each_alone more)) (sym adds.log) (log_issued r.log os more (h.entries n) held.log)) grown.set
        (λ v _ later. subst (PeersOk v n last) (sym peers) (PeersOk-later (seen w.node s.node h.entries) v n last r.peers later (h.peers n r on)))
        (λ v _ later. same_copies w s n h more v later)
        grown.distinct

    -- a running node hears a state
    sound_hear : (what : What) (body : StateValue) → Adds r (brings (joined r.log) body) after → (b : Brings w s n what body (held_at w s n r h on).set.operations) →
        ((v : NodeId → Seen) → ((m : NodeId) → Later (seen w.node s.node h.entries m) (v m)) → (v n).last ≡ (w.node n).last → (v n).on ≡ Some (and_more (held_at w s n r h on).set b.operations) → PeersOk v n (w.node n).last r.peers → PeersOk v n (w.node n).last after.peers) →
        Sound (record { count = w.count; node = with_node w.node n (runs_as (w.node n).last after); operations = w.operations ++ []; messages = w.messages ++ [] })
        (record { node = with_set s.node n (united (s.node n) (brought_to s n what)); issued = s.issued; copies = s.copies })
    sound_hear what body adds b peers =
        let last = (w.node n).last in
        let held = held_at w s n r h on in
        let os = held.set.operations in
        let es = h.entries n in
        let sets = with_set s.node n (united (s.node n) (brought_to s n what)) in
        let add = brought os b.delta w.operations (joined r.log) body held.state b.means held.ok.within (λ o i. b.within o (b.inside o i)) (DistinctDots-agree w.operations h.distinct) in
        let parts = gathered-append es add.entries in
        let old : AreOperationsOf os (gathered (es ++ add.entries)) = λ o i. subst (IsOperationOf o) (sym parts) (In-append_left o (gathered es) (gathered add.entries) (held.log.some o i)) in
        let new : AreOperationsOf b.operations (gathered (es ++ add.entries)) = λ o i. elim (b.rest o i) [
          | inl d ↦ elim (add.all o d) [ inl x ↦ subst (IsOperationOf o) (sym parts) (In-append_right o (gathered es) (gathered add.entries) x) | inr y ↦ old o y ]
          | inr y ↦ old o y
        ] in
        let log : IsLogOf (r.log ++ brings (joined r.log) body) (os ++ b.operations) (es ++ add.entries) =
        log_more r.log (brings (joined r.log) body) os b.operations es add.entries held.log add.is (λ o i. In-append_right o os b.operations (b.inside o (add.inside o i))) new in
        let ok : SetOk (w.operations ++ []) n last (os ++ b.operations) = subst (λ ops. SetOk ops n last (os ++ b.operations)) (sym (append-nil w.operations)) (hear_set w.operations os b.operations n last b.within held.ok) in
        sound_grows (and_more held.set b.operations) add.entries sets s.issued [] [] s.copies
        adds.origin held.inc (λ o i. In-append_left o os b.operations i)
        (put_at s.node n (united (s.node n) (brought_to s n what)) ∙ (λ i. united (held.is i) (b.brought i))) (put_elsewhere s.node n (united (s.node n) (brought_to s n what)))
        nothing_issued (λ o i. absurd (none_in o i))
        (subst (λ (l : List StateValue). IsLogOf l (os ++ b.operations) (es ++ add.entries)) (sym adds.log) log) ok
        (λ v now later. peers v later (ap (λ (x : Seen). x.last) now) (ap (λ (x : Seen). x.on) now) (PeersOk-later (seen w.node s.node h.entries) v n last r.peers later (h.peers n r on)))
        (λ v _ later. same_copies w s n h [] v later)
        all_distinct

  -- a running node ships to another
  ship_copies : (t : Table) (r : ModelRunning) → (w.node n).running ≡ Some r → (to : NodeId) → let m = message_of (running_shown t r) to in
      (v : NodeId → Seen) → ((k : NodeId) → Later (seen w.node s.node h.entries k) (v k)) → CopiesOk (w.operations ++ []) v (w.messages ++ m ∷ []) (s.copies ++ copied_by (s.node n) n m)
  ship_copies t r on to v later =
      let held = held_at w s n r h on in
      let u : NodeId → Seen = seen w.node s.node h.entries in
      let m : Message = message_of (running_shown t r) to in
      let copy : Copy = record { from = n; to = m.to; only = m.only; operations = held.set.operations } in
      let more : AreOperationsOf w.operations (w.operations ++ []) = λ o i. In-append_left o w.operations [] i in
      let one : CopyOk w.operations u m copy = ship_copy w.operations u n r held.set (DistinctDots-agree w.operations h.distinct) held.ok.within held.is held.log (h.peers n r on) t to held.mine in
      subst (λ (o : Option NodeSet). CopiesOk (w.operations ++ []) v (w.messages ++ m ∷ []) (s.copies ++ copied_by o n m)) (sym held.is)
      (CopiesOk-push (w.operations ++ []) v w.messages s.copies m copy (CopiesOk-later w.operations (w.operations ++ []) u v w.messages s.copies more later h.copies) (CopyOk-later w.operations (w.operations ++ []) u v m copy more later one))

  -- the peer table after a message
  heard_peers : (what : What) (m : Message) (r : ModelRunning) (on : (w.node n).running ≡ Some r) (is : event_of w.operations w.messages what ≡ Ok (Hear m)) (ok : Accepts n (w.node n).last m) →
      let b = brings_copy w s n what m r h on is ok in
      (v : NodeId → Seen) → ((k : NodeId) → Later (seen w.node s.node h.entries k) (v k)) → (v n).last ≡ (w.node n).last → (v n).on ≡ Some (and_more (held_at w s n r h on).set b.operations) →
      PeersOk v n (w.node n).last r.peers → PeersOk v n (w.node n).last (heard_from r.origin (length r.log) r.peers m)
  unfolding brings_copy
  heard_peers what m r on is ok v later last now peers =
      let held = held_at w s n r h on in
      let d = hears w.operations w.messages what m is in
      let u : NodeId → Seen = seen w.node s.node h.entries in
      let c = message_copy w.operations u w.messages s.copies d.number m h.copies d.there in
      let k = CopyOk-later w.operations w.operations u v m c.0 (λ o i. i) later c.1.1 in
      let set : NodeSet = and_more held.set c.0.operations in
      let got : Covered (v m.from.node) (v n) m.from.inc m.up_to (v n).last = Sent-covers (v m.from.node) (v n) m.from.inc m.up_to c.0.operations k.sent set now (λ o i. In-append_right o held.set.operations c.0.operations i) in
      subst (λ (q : Origin). PeersOk v n (w.node n).last (heard_from q (length r.log) r.peers m)) (sym held.mine)
      (heard_ok v n (w.node n).last (length r.log) r.peers m peers (subst (λ l. Covered (v m.from.node) (v n) m.from.inc m.up_to l) last got) k.ack)

  -- a running node ticks
  sound_tick : (t : Table) (what : What) (r : ModelRunning) → (w.node n).running ≡ Some r → (note : Note) (noted : List (Option Noted)) (now : ℕ) (opening : Opening) →
      let transition = ticks_by opening t (running_shown t r) noted now in
      let d : ModelNode = record { last = (w.node n).last; running = goes_on r note transition } in
      Sound (answered_by w n d (Ok transition.reply)).world (set_step s n what (Ok transition.reply))
  sound_tick t what r on note noted now Shut = sound_keep r on _ [] s.copies (record { origin = refl; log = refl }) (λ v k. k) (λ v later. same_copies w s n h [] v later)
  sound_tick t what r on note noted now GiveUp = sound_off
  sound_tick t what r on note noted now Opened =
      let sweep = sweep_of t r.origin noted now (joined r.log) in
      sound_issue r on _ sweep.ops (record { origin = refl; log = refl }) refl (claims_issued t r.origin noted now (joined r.log))

  -- ---- an accepted event
  sound_ok : (t : Table) (what : What) (e : Event) (running : Option ModelRunning) → event_of w.operations w.messages what ≡ Ok e → refusal_of t (shown t (w.node n)) e ≡ None → (w.node n).running ≡ running →
      let step = accepted t n (w.node n).last running e in
      Sound (answered_by w n step.node step.answer).world (set_step s n what (answered_by w n step.node step.answer).answer)
  sound_ok t what e None is none on = sound_boot (moment_of e)
  sound_ok t what (Boot now) (Some r) is none on = none_some (sym (ap (λ (l : Option ModelRunning). refusal_by t (w.node n).last (option_map (running_shown t) l) (Boot now)) (sym on) ∙ none))
  sound_ok t what Crash (Some r) is none on = sound_off
  sound_ok t what (Commanded c) (Some r) is none on =
      let act = act_of t (joined r.log) c in
      sound_issue r on _ (next_operation (joined r.log) r.origin act ∷ []) (record { origin = refl; log = refl }) refl ((act, refl), tt)
  sound_ok t what (Tick now) (Some r) is none on = sound_tick t what r on (note_of (joined r.log) (Tick now)) (waits_of t (note_of (joined r.log) (Tick now) ∷ r.notes)) now (opening_at t (running_shown t r) now)
  sound_ok t what (Ship to) (Some r) is none on =
      sound_keep r on _ (message_of (running_shown t r) to ∷ []) (s.copies ++ copied_by (s.node n) n (message_of (running_shown t r) to)) (record { origin = refl; log = refl }) (λ v k. shipped_ok v n (w.node n).last r.peers to k) (ship_copies t r on to)
  sound_ok t what (Hear m) (Some r) is none on =
      let ok = heard_accepts t w s n r h on m none in
      sound_hear r on _ what (content_of m.body) (record { origin = refl; log = refl }) (brings_copy w s n what m r h on is ok) (heard_peers what m r on is ok)
  sound_ok t what (HearOp o) (Some r) is none on = sound_hear r on _ what (meaning_of (o ∷ [])) (record { origin = refl; log = refl }) (brings_one w s n what o (held_at w s n r h on).set.operations h is) (λ v _ _ _ k. k)

sound_by : (t : Table) (w : ModelWorld) (s : SetWorld) (n : NodeId) (what : What) → Sound w s → Sound (happens_by t w n (event_of w.operations w.messages what)).world (set_step s n what (happens_by t w n (event_of w.operations w.messages what)).answer)
sound_by t w s n what h =
    elim (event_of w.operations w.messages what) as (λ r. event_of w.operations w.messages what ≡ r → Sound (happens_by t w n r).world (set_step s n what (happens_by t w n r).answer)) [
      | Err fault ↦ λ _. h
      | Ok e ↦ λ is. elim (refusal_of t (shown t (w.node n)) e) as (λ r. refusal_of t (shown t (w.node n)) e ≡ r → Sound (answered_by w n (step_by r t n (w.node n) e).node (step_by r t n (w.node n) e).answer).world (set_step s n what (answered_by w n (step_by r t n (w.node n) e).node (step_by r t n (w.node n) e).answer).answer)) [
        | Some why ↦ λ _. h
        | None ↦ λ none. sound_ok w s n h t what e (w.node n).running is none refl
      ] refl
    ] refl

pub sound_happens : (t : Table) (w : ModelWorld) (s : SetWorld) (e : WorldEvent) → Sound w s → Sound (happens t w e).world (set_step s e.node e.what (happens t w e).answer)
sound_happens t w s e h =
    elim (nat_lt e.node.0 w.count) as (λ b. Sound (cond b (happens_by t w e.node (event_of w.operations w.messages e.what)) (record { world = w; answer = Err NoSuchNode })).world (set_step s e.node e.what (cond b (happens_by t w e.node (event_of w.operations w.messages e.what)) (record { world = w; answer = Err NoSuchNode })).answer)) [
      | true ↦ sound_by t w s e.node e.what h
      | false ↦ h
    ]

pub sound_step : (t : Table) (w : ModelWorld) (s : SetWorld) (e : WorldEvent) (a : Answer) (next : ModelWorld) → Sound w s → Step w (happens t w e) a next → Sound next (set_step s e.node e.what a)
sound_step t w s e a next h (inl d) = subst (λ (p : ModelWorld × Answer). Sound p.0 (set_step s e.node e.what p.1)) (λ i. (sym d.went_on i, sym d.answered i)) (sound_happens t w s e h)
sound_step t w s e a next h (inr l) = subst (λ (p : ModelWorld × Answer). Sound p.0 (set_step s e.node e.what p.1)) (λ i. (sym l.stayed i, sym l.answered i)) h

-- every run of the model world refines the world of sets
pub sound_run : (t : Table) (w : ModelWorld) (s : SetWorld) (es : List WorldEvent) (answers : List Answer) (final : ModelWorld) → Sound w s → Run t w es answers final → Sound final (set_run s es answers)
sound_run t w s [] [] final h r = subst (λ (x : ModelWorld). Sound x s) (sym r.1) h
sound_run t w s [] (a ∷ answers) final h r = absurd r.0
sound_run t w s (e ∷ es) [] final h r = absurd r.0
sound_run t w s (e ∷ es) (a ∷ answers) final h run =
    let r = run_first t w e es a answers final run in
    sound_run t r.0 (set_step s e.node e.what a) es answers final (sound_step t w s e a r.0 h r.1.0) r.1.1

-- the worlds at the start
pub sound_start : (t : Table) → Sound (start t) no_sets
sound_start t = record { entries = λ _. []; nodes = λ n. off_ok [] n 0 (λ o i. absurd i); issued = refl; peers = λ n r e. none_some e; copies = tt; distinct = tt }
