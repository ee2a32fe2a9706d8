-- If no journal's next record can be placed after es, no run reproduces a longer prefix of any journal. A result
-- depends only on earlier records of its node, and a message shipped by any run of prefixes is shipped by some prefix,
-- so a record that can be placed stays placeable.
use Rattle.std.proofs.Common.{◌≡◌, ℕ, zero, suc, true, false, cond, inl, inr, ◌⊎◌, List, [], ◌∷◌, ◌++◌, Option, Some, None, Ok, map, nat_eq, refl, sym, ap, subst, ◌∙◌, true≢false, eq-eqb, append-nil, append_assoc}
use Rattle.dac_weave.specs.laws.Common.{exact_unsigned_eq, NodeId, Table, Event, Message, Operation, WorldEvent, What, off_after, ModelWorld, start, happens, event_of, counted, Record, JournalValue, Seen, seen_of, seen_at, seen_in, as_seen, journal_seen, At, IsPrefixOf, ReproducesPrefixes, run_from, node_step, replayed}
use Rattle.std.proofs.lemmas.List.{append_cancel_left}
use Rattle.dac_events.specs.declared.What.TheVariants.{Boot as Boots, Crash as Crashes, Command as Tells, Tick as Ticks, Ship as Ships, Deliver, Hand}
use Rattle.dac_journal.specs.ModelWorld.{heard_by, handed_by}
use Rattle.dac_weave.specs.Woven.{HasNone}
use Rattle.dac_weave.specs.laws.Members.{IsMember, in-from_counted, counted-from_in}
use Rattle.dac_weave.specs.laws.Runs.{node-after, count-after, seen-append, steps_node, outs, outs-front, sent, from, grows, shipped_of, issued_of}

-- ---- the world event that is a node's event
-- every message and operation of world w is also in v
pub record Has (w v : ModelWorld) : Type 0 where
  pub messages : (m : Message) → IsMember m w.messages → IsMember m v.messages
  pub operations : (o : Operation) → IsMember o w.operations → IsMember o v.operations

heard-from : (o : Option Message) (e : Event) → heard_by o ≡ Ok e → (m : Message) × (o ≡ Some m)
heard-from None e h = cc
heard-from (Some m) e h = (m, refl)

handed-from : (o : Option Operation) (e : Event) → handed_by o ≡ Ok e → (p : Operation) × (o ≡ Some p)
handed-from None e h = cc
handed-from (Some p) e h = (p, refl)

-- an event that has a name in w has one in v
pub named_still : (w v : ModelWorld) → Has w v → (what : What) (e : Event) → event_of w.operations w.messages what ≡ Ok e → (other : What) × (event_of v.operations v.messages other ≡ Ok e)
named_still w v has (Boots now) e h = (Boots now, h)
named_still w v has Crashes e h = (Crashes, h)
named_still w v has (Tells c) e h = (Tells c, h)
named_still w v has (Ticks now) e h = (Ticks now, h)
named_still w v has (Ships to) e h = (Ships to, h)
named_still w v has (Deliver k) e h =
    let m = heard-from (counted w.messages k) e h in
    let there = counted-from_in m.0 v.messages (has.messages m.0 (in-from_counted m.0 w.messages k m.1)) in
    (Deliver there.0, ap heard_by there.1 ∙ (ap heard_by (sym m.1) ∙ h))
named_still w v has (Hand k) e h =
    let o = handed-from (counted w.operations k) e h in
    let there = counted-from_in o.0 v.operations (has.operations o.0 (in-from_counted o.0 w.operations k o.1)) in
    (Hand there.0, ap handed_by there.1 ∙ (ap handed_by (sym o.1) ∙ h))

-- ---- a node has a journal, or none
pub same_number : (m n : NodeId) → nat_eq m.0 n.0 ≡ true → m ≡ n
same_number m n e = ap (λ (k : ℕ). record { 0 = k }) (exact_unsigned_eq m.0 n.0 e)

pub has_journal : (js : List JournalValue) (n : NodeId) → ((i : ℕ) × ((j : JournalValue) × (At js i j × (j.beginning.node ≡ n)))) ⊎ HasNone js n
has_journal [] n = inr (λ i j at is. cc)
has_journal (b ∷ js) n =
    elim (nat_eq b.beginning.node.0 n.0) as (λ t. nat_eq b.beginning.node.0 n.0 ≡ t → ((i : ℕ) × ((j : JournalValue) × (At (b ∷ js) i j × (j.beginning.node ≡ n)))) ⊎ HasNone (b ∷ js) n) [
      | true ↦ λ e. inl (0, (b, (refl, same_number b.beginning.node n e)))
      | false ↦ λ e. elim (has_journal js n) [
        | inl h ↦ inl (suc h.0, (h.1.0, (h.1.1.0, h.1.1.1)))
        | inr none ↦ inr (apart e none)
      ]
    ] refl
  where
    number : (a j : JournalValue) → Some a ≡ Some j → a.beginning.node.0 ≡ j.beginning.node.0
    number a j at = cc

    apart : nat_eq b.beginning.node.0 n.0 ≡ false → HasNone js n → HasNone (b ∷ js) n
    apart e none zero j at is = true≢false (sym (eq-eqb b.beginning.node.0 n.0 (number b j at ∙ ap (λ (k : NodeId). k.0) is)) ∙ e)
    apart e none (suc i) j at is = none i j at is

-- ---- events seen at a journal's node are records
journal_seen-record : (rs : List Record) (xs : List Seen) (x : Seen) (ys : List Seen) → map as_seen rs ≡ xs ++ x ∷ ys → (r : Record) × (x ≡ as_seen r)
journal_seen-record [] [] x ys h = cc
journal_seen-record [] (z ∷ zs) x ys h = cc
journal_seen-record (r ∷ rs) [] x ys h = (r, cc)
journal_seen-record (r ∷ rs) (z ∷ zs) x ys h = journal_seen-record rs zs x ys (cc)

-- ---- prefixes
-- two continuations of one list agree in their next item
next_same : (a : List Seen) (x y : Seen) (xs ys r s : List Seen) (all : List Seen) → all ≡ (a ++ x ∷ xs) ++ r → all ≡ (a ++ y ∷ ys) ++ s → x ≡ y
next_same a x y xs ys r s all p q =
    head (append_cancel_left a (x ∷ (xs ++ r)) (y ∷ (ys ++ s)) (sym (append_assoc a (x ∷ xs) r) ∙ (sym p ∙ (q ∙ append_assoc a (y ∷ ys) s))))
  where
    head : {u v : List Seen} → ◌≡◌ {A = List Seen} (x ∷ u) (y ∷ v) → x ≡ y
    head e = cc

no_more : (a : List Seen) (x : Seen) (xs : List Seen) → a ++ x ∷ xs ≡ [] → ⊥
no_more [] x xs e = cc
no_more (z ∷ a) x xs e = cc

-- ---- the end of the merge
module _ (t : Table) (js : List JournalValue) (es : List WorldEvent) where
  abbrev pub final : ModelWorld
  final = run_from t (start t) es

  -- no journal's next record can be placed
  abbrev pub Stands : Type 0
  Stands = (i : ℕ) (j : JournalValue) → At js i j → (x : Seen) → IsPrefixOf (seen_in t es j.beginning.node ++ x ∷ []) (journal_seen j) → x.answer ≡ (node_step t j.beginning.node (final.node j.beginning.node) x.event).answer → (what : What) → event_of final.operations final.messages what ≡ x.event → ⊥

  -- gs goes no further than es at any node
  abbrev pub Behind : List WorldEvent → Type 0
  Behind gs = (n : NodeId) → IsPrefixOf (seen_in t gs n) (seen_in t es n)

  behind_has : (gs : List WorldEvent) → Behind gs → Has (run_from t (start t) gs) final
  behind_has gs behind = record {
    messages = λ m h. elim (from t shipped_of (λ w. w.messages) (λ w e. (grows t w e).messages) m (start t) gs h) [
      | inl a ↦ absurd a
      | inr b ↦ sent t shipped_of (λ w. w.messages) (λ w e. (grows t w e).messages) m b.0 (start t) es
          (subst (λ xs. IsMember m (outs t shipped_of (λ w. w.messages) (λ w e. (grows t w e).messages) xs)) (sym (behind b.0).1) (outs-front t shipped_of (λ w. w.messages) (λ w e. (grows t w e).messages) m (seen_in t gs b.0) (behind b.0).0 b.1))
    ];
    operations = λ o h. elim (from t issued_of (λ w. w.operations) (λ w e. (grows t w e).operations) o (start t) gs h) [
      | inl a ↦ absurd a
      | inr b ↦ sent t issued_of (λ w. w.operations) (λ w e. (grows t w e).operations) o b.0 (start t) es
          (subst (λ xs. IsMember o (outs t issued_of (λ w. w.operations) (λ w e. (grows t w e).operations) xs)) (sym (behind b.0).1) (outs-front t issued_of (λ w. w.operations) (λ w e. (grows t w e).operations) o (seen_in t gs b.0) (behind b.0).0 b.1))
    ];
  }

  -- a node that has the same events in both runs has the same state
  same_there : (gs : List WorldEvent) (n : NodeId) → seen_in t es n ≡ seen_in t gs n → (run_from t (start t) gs).node n ≡ final.node n
  same_there gs n e =
      node-after t n (start t) gs refl ∙ (ap (replayed t n (off_after 0)) (sym e) ∙ sym (node-after t n (start t) es refl))

  module _ (own : ReproducesPrefixes t js es) (stands : Stands) where
    -- the next event of another run that reproduces prefixes, at node n
    record Next (gs : List WorldEvent) (f : WorldEvent) (fs : List WorldEvent) (n : NodeId) : Type 0 where
      pub at : nat_eq f.node.0 n.0 ≡ true
      pub whole : ReproducesPrefixes t js (gs ++ f ∷ fs)
      pub behind : Behind gs

    abbrev world_of : List WorldEvent → ModelWorld
    world_of gs = run_from t (start t) gs

    abbrev seen_next : List WorldEvent → WorldEvent → Seen
    seen_next gs f = seen_of t (world_of gs) f

    abbrev later : List WorldEvent → WorldEvent → List WorldEvent → NodeId → List Seen
    later gs f fs n = seen_at t n (happens t (world_of gs) f).world fs

    all_seen : (gs : List WorldEvent) (f : WorldEvent) (fs : List WorldEvent) (n : NodeId) → nat_eq f.node.0 n.0 ≡ true → seen_in t (gs ++ f ∷ fs) n ≡ seen_in t gs n ++ seen_next gs f ∷ later gs f fs n
    all_seen gs f fs n e = seen-append t n (start t) gs (f ∷ fs) ∙ ap (λ b. seen_in t gs n ++ cond b (seen_next gs f ∷ later gs f fs n) (later gs f fs n)) e

    -- es goes further than gs at that node
    not_lacking : (gs : List WorldEvent) (f : WorldEvent) (fs : List WorldEvent) (i : ℕ) (j : JournalValue) → At js i j → Next gs f fs j.beginning.node → seen_in t es j.beginning.node ≡ seen_in t gs j.beginning.node → ⊥
    not_lacking gs f fs i j at next same =
        let n = j.beginning.node in
        let x = seen_next gs f in
        let r = (next.whole.each i j at).0 in
        let is : journal_seen j ≡ (seen_in t gs n ++ x ∷ later gs f fs n) ++ r = (next.whole.each i j at).1 ∙ ap (λ (xs : List Seen). xs ++ r) (all_seen gs f fs n next.at) in
        let front : journal_seen j ≡ (seen_in t es n ++ x ∷ []) ++ (later gs f fs n ++ r) =
        is ∙ (append_assoc (seen_in t gs n) (x ∷ later gs f fs n) r ∙ (ap (λ (xs : List Seen). xs ++ x ∷ (later gs f fs n ++ r)) (sym same) ∙ sym (append_assoc (seen_in t es n) (x ∷ []) (later gs f fs n ++ r)))) in
        let rec = journal_seen-record j.records (seen_in t gs n) x (later gs f fs n ++ r) (is ∙ append_assoc (seen_in t gs n) (x ∷ later gs f fs n) r) in
        let named = named_still (world_of gs) final (behind_has gs next.behind) f.what rec.0.event (ap (λ (s : Seen). s.event) rec.1) in
        let answer : x.answer ≡ (node_step t n (final.node n) x.event).answer =
        ◌∙◌ {a = x.answer} (steps_node t n (world_of gs) f (count-after t (start t) gs refl) next.at).answer (ap (λ d. (node_step t n d x.event).answer) (same_there gs n same)) in
        stands i j at x (later gs f fs n ++ r, front) answer named.0 (named.1 ∙ sym (ap (λ (s : Seen). s.event) rec.1))

    at_journal : (gs : List WorldEvent) (f : WorldEvent) (fs : List WorldEvent) (i : ℕ) (j : JournalValue) → At js i j → Next gs f fs j.beginning.node → (left : List Seen) → seen_in t es j.beginning.node ≡ seen_in t gs j.beginning.node ++ left → IsPrefixOf (seen_in t gs j.beginning.node ++ seen_next gs f ∷ []) (seen_in t es j.beginning.node)
    at_journal gs f fs i j at next [] q = absurd (not_lacking gs f fs i j at next (q ∙ append-nil (seen_in t gs j.beginning.node)))
    at_journal gs f fs i j at next (y ∷ ys) q =
        let n = j.beginning.node in
        let x = seen_next gs f in
        let theirs = next.whole.each i j at in
        let mine = own.each i j at in
        let is : x ≡ y = next_same (seen_in t gs n) x y (later gs f fs n) ys theirs.0 mine.0 (journal_seen j) (theirs.1 ∙ ap (λ (xs : List Seen). xs ++ theirs.0) (all_seen gs f fs n next.at)) (mine.1 ∙ ap (λ (xs : List Seen). xs ++ mine.0) q) in
        (ys, q ∙ (ap (λ z. seen_in t gs n ++ z ∷ ys) (sym is) ∙ sym (append_assoc (seen_in t gs n) (x ∷ []) ys)))

    at_node : (gs : List WorldEvent) (f : WorldEvent) (fs : List WorldEvent) (n : NodeId) → Next gs f fs n → IsPrefixOf (seen_in t gs n ++ seen_next gs f ∷ []) (seen_in t es n)
    at_node gs f fs n next = elim (has_journal js n) [
      | inl h ↦ subst (λ (m : NodeId). Next gs f fs m → IsPrefixOf (seen_in t gs m ++ seen_next gs f ∷ []) (seen_in t es m)) h.1.1.1
          (λ (here : Next gs f fs h.1.0.beginning.node). at_journal gs f fs h.0 h.1.0 h.1.1.0 here (here.behind h.1.0.beginning.node).0 (here.behind h.1.0.beginning.node).1) next
      | inr none ↦ absurd (no_more (seen_in t gs n) (seen_next gs f) (later gs f fs n) (sym (all_seen gs f fs n next.at) ∙ next.whole.others n none))
    ]

    behind_more : (gs : List WorldEvent) (f : WorldEvent) (fs : List WorldEvent) → ReproducesPrefixes t js (gs ++ f ∷ fs) → Behind gs → Behind (gs ++ f ∷ [])
    behind_more gs f fs whole behind n =
        elim (nat_eq f.node.0 n.0) as (λ b. nat_eq f.node.0 n.0 ≡ b → IsPrefixOf (seen_in t (gs ++ f ∷ []) n) (seen_in t es n)) [
          | true ↦ λ e. subst (λ xs. IsPrefixOf xs (seen_in t es n)) (sym (all_seen gs f [] n e)) (at_node gs f fs n (record { at = e; whole = whole; behind = behind }))
          | false ↦ λ e. subst (λ xs. IsPrefixOf xs (seen_in t es n))
              (sym (seen-append t n (start t) gs (f ∷ []) ∙ (ap (λ b. seen_in t gs n ++ cond b (seen_next gs f ∷ []) []) e ∙ append-nil (seen_in t gs n)))) (behind n)
        ] refl

    behind_all : (gs fs : List WorldEvent) → ReproducesPrefixes t js (gs ++ fs) → Behind gs → Behind (gs ++ fs)
    behind_all gs [] whole behind = subst Behind (sym (append-nil gs)) behind
    behind_all gs (f ∷ fs) whole behind =
        let same : (gs ++ f ∷ []) ++ fs ≡ gs ++ f ∷ fs = append_assoc gs (f ∷ []) fs in
        subst Behind same (behind_all (gs ++ f ∷ []) fs (subst (ReproducesPrefixes t js) (sym same) whole) (behind_more gs f fs whole behind))

    -- no run of prefixes goes further at any node
    pub furthest : (fs : List WorldEvent) → ReproducesPrefixes t js fs → (n : NodeId) → IsPrefixOf (seen_in t fs n) (seen_in t es n)
    furthest fs whole = behind_all [] fs whole (λ n. (seen_in t es n, refl))
