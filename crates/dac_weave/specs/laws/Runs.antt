-- A run seen from each node: a node's own events determine its state and results, and the events of all nodes determine
-- the operations and messages.
use Rattle.std.proofs.Common.{◌≡◌, ℕ, Bool, true, false, cond, inl, inr, ◌⊎◌, List, [], ◌∷◌, ◌++◌, Result, Ok, Err, nat_eq, refl, sym, ap, subst, ◌∙◌, true≢false, eq-eqb, append-nil}
use Rattle.dac_weave.specs.laws.Common.{exact_unsigned_eq, NodeId, Table, node_count, Event, Reply, Refusal, Message, Operation, WorldEvent, WorldFault, NoSuchNode, ModelNode, model_step, ModelWorld, WorldStepped, happens, happens_by, answered_by, event_of, Seen, seen_of, seen_at, NodeStepped, moved, node_step, node_step_by, replayed, AreAnswered, run_from}
use Rattle.std.specs.Prelude.{nat_lt}
use Rattle.dac_journal.specs.ModelWorld.{issued_by, shipped_by}
use Rattle.dac_weave.specs.laws.Members.{IsMember, In-left, In-right, In-cases, not_true}

-- ---- one event
same_node : (m n : NodeId) → nat_eq m.0 n.0 ≡ true → m ≡ n
same_node m n e = ap (λ (k : ℕ). record { 0 = k }) (exact_unsigned_eq m.0 n.0 e)

-- the world's step agrees with the node's step at the node where it happens
record Matches (w : ModelWorld) (n : NodeId) (s : WorldStepped) (d : NodeStepped) : Type 0 where
  pub answer : s.answer ≡ d.answer
  pub here : s.world.node n ≡ d.node
  pub others : (m : NodeId) → nat_eq n.0 m.0 ≡ false → s.world.node m ≡ w.node m
  pub count : s.world.count ≡ w.count

pub eq_self : (n : ℕ) → nat_eq n n ≡ true
eq_self n = eq-eqb n n refl

swapped : (m n : ℕ) → nat_eq n m ≡ false → nat_eq m n ≡ false
swapped m n h = not_true (nat_eq m n) (λ e. true≢false (sym (eq-eqb n m (sym (exact_unsigned_eq m n e))) ∙ h))

matches_answer : (w : ModelWorld) (n : NodeId) (d : ModelNode) (a : Result Reply Refusal) → Matches w n (answered_by w n d a) (moved (w.node n) d a)
matches_answer w n d (Err why) = record { answer = refl; here = refl; others = λ m h. refl; count = refl }
matches_answer w n d (Ok reply) = record {
  answer = refl;
  here = ap (λ b. cond b d (w.node n)) (eq_self n.0);
  others = λ m h. ap (λ b. cond b d (w.node m)) (swapped m.0 n.0 h);
  count = refl;
}

matches_by : (t : Table) (w : ModelWorld) (n : NodeId) (e : Result Event WorldFault) → Matches w n (happens_by t w n e) (node_step_by t n (w.node n) e)
matches_by t w n (Err fault) = record { answer = refl; here = refl; others = λ m h. refl; count = refl }
matches_by t w n (Ok e) = matches_answer w n (model_step t n (w.node n) e).node (model_step t n (w.node n) e).answer

matches : (t : Table) (w : ModelWorld) (e : WorldEvent) → w.count ≡ node_count t → Matches w e.node (happens t w e) (node_step t e.node (w.node e.node) (event_of w.operations w.messages e.what))
matches t w e c =
    subst (λ (k : ℕ). Matches w e.node (happens t w e) (cond (nat_lt e.node.0 k) (node_step_by t e.node (w.node e.node) (event_of w.operations w.messages e.what)) (record { node = w.node e.node; answer = Err NoSuchNode }))) c
    (by (nat_lt e.node.0 w.count))
  where
    by : (b : Bool) → Matches w e.node (cond b (happens_by t w e.node (event_of w.operations w.messages e.what)) (record { world = w; answer = Err NoSuchNode })) (cond b (node_step_by t e.node (w.node e.node) (event_of w.operations w.messages e.what)) (record { node = w.node e.node; answer = Err NoSuchNode }))
    by true = matches_by t w e.node (event_of w.operations w.messages e.what)
    by false = record { answer = refl; here = refl; others = λ m h. refl; count = refl }

-- the event is a step of node n
pub record StepsNode (t : Table) (n : NodeId) (w : ModelWorld) (e : WorldEvent) : Type 0 where
  pub answer : (seen_of t w e).answer ≡ (node_step t n (w.node n) (seen_of t w e).event).answer
  pub node : (happens t w e).world.node n ≡ (node_step t n (w.node n) (seen_of t w e).event).node

pub steps_node : (t : Table) (n : NodeId) (w : ModelWorld) (e : WorldEvent) → w.count ≡ node_count t → nat_eq e.node.0 n.0 ≡ true → StepsNode t n w e
steps_node t n w e c h =
    let m = matches t w e c in
    subst (λ (k : NodeId). StepsNode t k w e) (same_node e.node n h) (record { answer = m.answer; node = m.here })

pub count-after : (t : Table) (w : ModelWorld) (es : List WorldEvent) → w.count ≡ node_count t → (run_from t w es).count ≡ node_count t
count-after t w [] c = c
count-after t w (e ∷ es) c = count-after t (happens t w e).world es ((matches t w e c).count ∙ c)

-- ---- a node's events determine its state
pub node-after : (t : Table) (n : NodeId) (w : ModelWorld) (es : List WorldEvent) → w.count ≡ node_count t → (run_from t w es).node n ≡ replayed t n (w.node n) (seen_at t n w es)
node-after t n w [] c = refl
node-after t n w (e ∷ es) c =
    let next = (happens t w e).world in
    let rest = seen_at t n next es in
    node-after t n next es ((matches t w e c).count ∙ c)
    ∙ (elim (nat_eq e.node.0 n.0) as (λ b. nat_eq e.node.0 n.0 ≡ b → replayed t n (next.node n) rest ≡ replayed t n (w.node n) (cond b (seen_of t w e ∷ rest) rest)) [
      | true ↦ λ h. ap (λ d. replayed t n d rest) (steps_node t n w e c h).node
      | false ↦ λ h. ap (λ d. replayed t n d rest) ((matches t w e c).others n h)
    ] refl)

-- a node's events determine its results
pub history-after : (t : Table) (n : NodeId) (w : ModelWorld) (es : List WorldEvent) → w.count ≡ node_count t → AreAnswered t n (w.node n) (seen_at t n w es)
history-after t n w [] c = tt
history-after t n w (e ∷ es) c =
    let next = (happens t w e).world in
    let rest = seen_at t n next es in
    let later = history-after t n next es ((matches t w e c).count ∙ c) in
    elim (nat_eq e.node.0 n.0) as (λ b. nat_eq e.node.0 n.0 ≡ b → AreAnswered t n (w.node n) (cond b (seen_of t w e ∷ rest) rest)) [
      | true ↦ λ h. ((steps_node t n w e c h).answer, subst (λ d. AreAnswered t n d rest) (steps_node t n w e c h).node later)
      | false ↦ λ h. subst (λ d. AreAnswered t n d rest) ((matches t w e c).others n h) later
    ] refl

-- ---- a run and its continuation
pub run-append : (t : Table) (w : ModelWorld) (es fs : List WorldEvent) → run_from t w (es ++ fs) ≡ run_from t (run_from t w es) fs
run-append t w [] fs = refl
run-append t w (e ∷ es) fs = run-append t (happens t w e).world es fs

cond-append : {X : Type 0} (b : Bool) (x : X) (xs ys : List X) → cond b (x ∷ xs ++ ys) (xs ++ ys) ≡ cond b (x ∷ xs) xs ++ ys
cond-append true x xs ys = refl
cond-append false x xs ys = refl

pub seen-append : (t : Table) (n : NodeId) (w : ModelWorld) (es fs : List WorldEvent) → seen_at t n w (es ++ fs) ≡ seen_at t n w es ++ seen_at t n (run_from t w es) fs
seen-append t n w [] fs = refl
seen-append t n w (e ∷ es) fs =
    let next = (happens t w e).world in
    ap (λ (xs : List Seen). cond (nat_eq e.node.0 n.0) (seen_of t w e ∷ xs) xs) (seen-append t n next es fs)
    ∙ cond-append (nat_eq e.node.0 n.0) (seen_of t w e) (seen_at t n next es) (seen_at t n (run_from t next es) fs)

pub replayed-append : (t : Table) (n : NodeId) (d : ModelNode) (xs ys : List Seen) → replayed t n d (xs ++ ys) ≡ replayed t n (replayed t n d xs) ys
replayed-append t n d [] ys = refl
replayed-append t n d (x ∷ xs) ys = replayed-append t n (node_step t n d x.event).node xs ys

pub AreAnswered-push : (t : Table) (n : NodeId) (d : ModelNode) (xs : List Seen) (y : Seen) → AreAnswered t n d xs → y.answer ≡ (node_step t n (replayed t n d xs) y.event).answer → AreAnswered t n d (xs ++ y ∷ [])
AreAnswered-push t n d [] y h e = (e, tt)
AreAnswered-push t n d (x ∷ xs) y h e = (h.0, AreAnswered-push t n (node_step t n d x.event).node xs y h.1 e)

-- ---- output, of messages or of operations
module _ {X : Type 0} (t : Table) (out : Result Reply WorldFault → List X) (all : ModelWorld → List X) (grows : (w : ModelWorld) (e : WorldEvent) → all (happens t w e).world ≡ all w ++ out (happens t w e).answer) where
  abbrev pub outs : List Seen → List X
  outs [] = []
  outs (x ∷ xs) = out x.answer ++ outs xs

  pub outs-front : (x : X) (xs ys : List Seen) → IsMember x (outs xs) → IsMember x (outs (xs ++ ys))
  outs-front x [] ys h = elim h [ ]
  outs-front x (s ∷ xs) ys h = elim (In-cases x (out s.answer) (outs xs) h) [
    | inl a ↦ In-left x (out s.answer) (outs (xs ++ ys)) a
    | inr b ↦ In-right x (out s.answer) (outs (xs ++ ys)) (outs-front x xs ys b)
  ]

  stays : (x : X) (w : ModelWorld) (es : List WorldEvent) → IsMember x (all w) → IsMember x (all (run_from t w es))
  stays x w [] h = h
  stays x w (e ∷ es) h = stays x (happens t w e).world es (subst (IsMember x) (sym (grows w e)) (In-left x (all w) (out (happens t w e).answer) h))

  pub sent : (x : X) (n : NodeId) (w : ModelWorld) (es : List WorldEvent) → IsMember x (outs (seen_at t n w es)) → IsMember x (all (run_from t w es))
  sent x n w [] = λ h. absurd h
  sent x n w (e ∷ es) =
      let next = (happens t w e).world in
      let rest = seen_at t n next es in
      elim (nat_eq e.node.0 n.0) as (λ b. IsMember x (outs (cond b (seen_of t w e ∷ rest) rest)) → IsMember x (all (run_from t next es))) [
        | true ↦ λ h. elim (In-cases x (out (happens t w e).answer) (outs rest) h) [
          | inl a ↦ stays x next es (subst (IsMember x) (sym (grows w e)) (In-right x (all w) (out (happens t w e).answer) a))
          | inr b ↦ sent x n next es b
        ]
        | false ↦ λ h. sent x n next es h
      ]

  sent_more : (x : X) (n : NodeId) (w : ModelWorld) (e : WorldEvent) (es : List WorldEvent) → IsMember x (outs (seen_at t n (happens t w e).world es)) → IsMember x (outs (seen_at t n w (e ∷ es)))
  sent_more x n w e es h =
      let rest = seen_at t n (happens t w e).world es in
      elim (nat_eq e.node.0 n.0) as (λ b. IsMember x (outs (cond b (seen_of t w e ∷ rest) rest))) [
        | true ↦ In-right x (out (happens t w e).answer) (outs rest) h
        | false ↦ h
      ]

  sent_here : (x : X) (w : ModelWorld) (e : WorldEvent) (es : List WorldEvent) → IsMember x (out (happens t w e).answer) → IsMember x (outs (seen_at t e.node w (e ∷ es)))
  sent_here x w e es h =
      let rest = seen_at t e.node (happens t w e).world es in
      subst (λ b. IsMember x (outs (cond b (seen_of t w e ∷ rest) rest))) (sym (eq_self e.node.0)) (In-left x (out (happens t w e).answer) (outs rest) h)

  pub from : (x : X) (w : ModelWorld) (es : List WorldEvent) → IsMember x (all (run_from t w es)) → IsMember x (all w) ⊎ ((n : NodeId) × IsMember x (outs (seen_at t n w es)))
  from x w [] h = inl h
  from x w (e ∷ es) h =
      let next = (happens t w e).world in
      elim (from x next es h) [
        | inl a ↦ elim (In-cases x (all w) (out (happens t w e).answer) (subst (IsMember x) (grows w e) a)) [
          | inl old ↦ inl old
          | inr new ↦ inr (e.node, sent_here x w e es new)
        ]
        | inr b ↦ inr (b.0, sent_more x b.0 w e es b.1)
      ]

-- ---- messages and operations
abbrev pub shipped_of : Result Reply WorldFault → List Message
shipped_of (Err fault) = []
shipped_of (Ok reply) = shipped_by reply

abbrev pub issued_of : Result Reply WorldFault → List Operation
issued_of (Err fault) = []
issued_of (Ok reply) = issued_by reply

pub record Grows (w : ModelWorld) (s : WorldStepped) : Type 0 where
  pub messages : s.world.messages ≡ w.messages ++ shipped_of s.answer
  pub operations : s.world.operations ≡ w.operations ++ issued_of s.answer

grows_answer : (w : ModelWorld) (n : NodeId) (d : ModelNode) (a : Result Reply Refusal) → Grows w (answered_by w n d a)
grows_answer w n d (Err why) = record { messages = sym (append-nil w.messages); operations = sym (append-nil w.operations) }
grows_answer w n d (Ok reply) = record { messages = refl; operations = refl }

grows_by : (t : Table) (w : ModelWorld) (n : NodeId) (e : Result Event WorldFault) → Grows w (happens_by t w n e)
grows_by t w n (Err fault) = record { messages = sym (append-nil w.messages); operations = sym (append-nil w.operations) }
grows_by t w n (Ok e) = grows_answer w n (model_step t n (w.node n) e).node (model_step t n (w.node n) e).answer

pub grows : (t : Table) (w : ModelWorld) (e : WorldEvent) → Grows w (happens t w e)
grows t w e = elim (nat_lt e.node.0 w.count) as (λ b. Grows w (cond b (happens_by t w e.node (event_of w.operations w.messages e.what)) (record { world = w; answer = Err NoSuchNode }))) [
  | true ↦ grows_by t w e.node (event_of w.operations w.messages e.what)
  | false ↦ record { messages = sym (append-nil w.messages); operations = sym (append-nil w.operations) }
]
