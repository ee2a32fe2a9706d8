-- The invariant of one node of the model world and its set. A running node's state is the meaning of its set. The set
-- contains all operations of its present incarnation, and no operation is of a later one, so that its next dot is new.
use Rattle.std.proofs.Common.{◌≡◌, ℕ, ◌≤◌, ◌+◌, true, false, ◌||◌, inl, inr, List, [], ◌∷◌, ◌++◌, Option, Some, None, refl, sym, ap, subst, ◌∙◌, append_assoc, append-nil, arith}
use Rattle.dac_model_world.specs.laws.Common.{option_map, list_any, false_from_ne_true, NodeId, Origin, Dot, same_dot_is, same_dot_itself, Act, Operation, StateValue, join, meaning_of, IsOperationOf, AreOperationsOf, DotsDetermine, has_dot, names, known-meaning, Within-append, In-append_left, In-append_right, In-append_cases, found, finds, join-meaning, next_operation, AreIssued, ModelNode, ModelRunning, joined, meanings, up, some_same, NodeSet, DistinctDots, state_by}
use Rattle.std.specs.Prelude.{fold}
use Rattle.std.specs.FinSet as set
use Rattle.dac_meaning.specs.Meaning.{replaces}
use Rattle.dac_commands.specs.Commands.{greatest_counter}
use Rattle.dac_commands.specs.laws.Counters.{counter-greatest}
use Rattle.dac_model_node.specs.Issued.{IsNextOf}
pub use Rattle.dac_model_world.specs.Made.{own_origin, NoneLater, SetOk}
use Rattle.dac_model_world.specs.laws.Operations.{one_in, Agree-within, DistinctDots-agree, DistinctDots-push}
use Rattle.dac_model_world.specs.laws.Gathered.{Entries, IsLogOf, log_means}

abbrev pub state_in : ModelRunning → StateValue
state_in r = joined r.log

-- a running node, and one that is off
abbrev pub runs_as : ℕ → ModelRunning → ModelNode
runs_as last r = record { last = last; running = Some r }

abbrev pub stays_off : ℕ → ModelNode
stays_off last = record { last = last; running = None }

-- ---- the invariant
-- node n with its log, its set, and the sets that the states of its log mean
pub record NodeOk (ops : List Operation) (n : NodeId) (d : ModelNode) (held : Option NodeSet) (es : Entries) : Type 0 where
  pub state : option_map state_in d.running ≡ option_map state_by held
  pub origin : (r : ModelRunning) → d.running ≡ Some r → r.origin ≡ own_origin n d.last
  pub inc : (set : NodeSet) → held ≡ Some set → set.inc ≡ d.last
  pub log : (r : ModelRunning) (set : NodeSet) → d.running ≡ Some r → held ≡ Some set → IsLogOf r.log set.operations es
  pub within : (set : NodeSet) → held ≡ Some set → AreOperationsOf set.operations ops
  pub own : (set : NodeSet) → held ≡ Some set → (o : Operation) → IsOperationOf o ops → o.dot.origin ≡ own_origin n d.last → IsOperationOf o set.operations
  pub old : NoneLater ops n d.last

-- a running node and its set, whatever else it keeps
pub run_ok : (ops : List Operation) (n : NodeId) (last : ℕ) (r : ModelRunning) (set : NodeSet) (es : Entries) → DotsDetermine ops → r.origin ≡ own_origin n last → set.inc ≡ last → IsLogOf r.log set.operations es → SetOk ops n last set.operations → NodeOk ops n (runs_as last r) (Some set) es
run_ok ops n last r set es agree mine inc log h = record {
  state = ap (λ (s : StateValue). Some s) (log_means r.log set.operations ops es h.within agree log);
  origin = λ q e. subst (λ (x : ModelRunning). x.origin ≡ own_origin n last) (some_same r q e) mine;
  inc = λ other e. subst (λ (x : NodeSet). x.inc ≡ last) (some_same set other e) inc;
  log = λ q other e f. subst (λ (x : ModelRunning × NodeSet). IsLogOf x.0.log x.1.operations es) (λ i. (some_same r q e i, some_same set other f i)) log;
  within = λ other e. subst (λ (x : NodeSet). AreOperationsOf x.operations ops) (some_same set other e) h.within;
  own = λ other e o i t. subst (λ (x : NodeSet). IsOperationOf o x.operations) (some_same set other e) (h.own o i t);
  old = h.old;
}

pub record HeldBy (ops : List Operation) (n : NodeId) (last : ℕ) (r : ModelRunning) (held : Option NodeSet) (es : Entries) : Type 0 where
  pub set : NodeSet
  pub is : held ≡ Some set
  pub inc : set.inc ≡ last
  pub state : joined r.log ≡ state_by set
  pub mine : r.origin ≡ own_origin n last
  pub log : IsLogOf r.log set.operations es
  pub ok : SetOk ops n last set.operations

pub held_of : (ops : List Operation) (n : NodeId) (last : ℕ) (r : ModelRunning) (held : Option NodeSet) (es : Entries) → NodeOk ops n (runs_as last r) held es → HeldBy ops n last r held es
held_of ops n last r None es h = absurd (no h.state)
  where
    no : Some (joined r.log) ≡ None → ⊥
    no p = cc
held_of ops n last r (Some set) es h = record {
  set = set;
  is = refl;
  inc = h.inc set refl;
  state = some_same (joined r.log) (state_by set) h.state;
  mine = h.origin r refl;
  log = h.log r set refl refl;
  ok = record { within = h.within set refl; own = h.own set refl; old = h.old };
}

-- a node that is off
pub off_ok : (ops : List Operation) (n : NodeId) (last : ℕ) → NoneLater ops n last → NodeOk ops n (stays_off last) None []
off_ok ops n last old = record {
  state = refl;
  origin = λ r e. absurd (no_run r e);
  inc = λ set e. absurd (no set e);
  log = λ r set e f. absurd (no set f);
  within = λ set e. absurd (no set e);
  own = λ set e. absurd (no set e);
  old = old;
}
  where
    no : (set : NodeSet) → None ≡ Some set → ⊥
    no set e = cc

    no_run : (r : ModelRunning) → None ≡ Some r → ⊥
    no_run r e = cc

-- another node, when operations are issued elsewhere
pub NodeOk-more : (ops more : List Operation) (n : NodeId) (d : ModelNode) (held : Option NodeSet) (es : Entries) → ((o : Operation) → IsOperationOf o more → o.dot.origin.node ≡ n → ⊥) → NodeOk ops n d held es → NodeOk (ops ++ more) n d held es
NodeOk-more ops more n d held es far h = record {
  state = h.state;
  origin = h.origin;
  inc = h.inc;
  log = h.log;
  within = λ set e o i. In-append_left o ops more (h.within set e o i);
  own = λ set e o i t. elim (In-append_cases o ops more i) [ inl a ↦ h.own set e o a t | inr b ↦ absurd (far o b (ap (λ (q : Origin). q.node) t)) ];
  old = λ o i t. elim (In-append_cases o ops more i) [ inl a ↦ h.old o a t | inr b ↦ absurd (far o b t) ];
}

-- ---- a node boots
same_le : (i l : ℕ) → i ≡ l → i ≤ l
same_le i l e = omega arith

later_one : (l i : ℕ) → i ≤ l → i ≡ l + 1 → ⊥
later_one l i a b = omega arith

-- the set of a node after its boot
pub boot_set : (ops : List Operation) (n : NodeId) (last : ℕ) → NoneLater ops n last → let x = up (own_origin n (last + 1)) in SetOk (ops ++ x ∷ []) n (last + 1) (x ∷ [])
boot_set ops n last old =
    let x : Operation = up (own_origin n (last + 1)) in
    record {
      within = λ o i. In-append_right o ops (x ∷ []) i;
      own = λ o i t. elim (In-append_cases o ops (x ∷ []) i) [
        | inl a ↦ absurd (later_one last o.dot.origin.inc (old o a (ap (λ (q : Origin). q.node) t)) (ap (λ (q : Origin). q.inc) t))
        | inr b ↦ b
      ];
      old = λ o i t. elim (In-append_cases o ops (x ∷ []) i) [
        | inl a ↦ later last o.dot.origin.inc (old o a t)
        | inr b ↦ same_le o.dot.origin.inc (last + 1) (ap (λ (y : Operation). y.dot.origin.inc) (one_in o x b))
      ];
    }
  where
    later : (l i : ℕ) → i ≤ l → i ≤ l + 1
    later l i a = omega arith

-- the log of a node after its boot
pub boot_log : (x : Operation) → IsLogOf (meaning_of (x ∷ []) ∷ []) (x ∷ []) ((x ∷ []) ∷ [])
boot_log x = record { states = refl; all = λ o i. i; some = λ o i. i }

-- the dot of the operation of a boot is new
pub boot_fresh : (ops : List Operation) (n : NodeId) (last : ℕ) → NoneLater ops n last → list_any (has_dot (up (own_origin n (last + 1))).dot) ops ≡ false
boot_fresh ops n last old = false_from_ne_true (list_any (has_dot x.dot) ops) (λ t.
    let f = found (has_dot x.dot) ops t in
    let e = same_dot_is x.dot f.0.dot f.1.1 in
    later_one last f.0.dot.origin.inc (old f.0 f.1.0 (sym (ap (λ (y : Dot). y.origin.node) e))) (sym (ap (λ (y : Dot). y.origin.inc) e)))
  where
    x : Operation
    x = up (own_origin n (last + 1))

-- ---- a node issues operations
-- the dot of an operation that node n issues is new
issue_fresh : (ops os : List Operation) (own : Origin) (act : Act) → ((o : Operation) → IsOperationOf o ops → o.dot.origin ≡ own → IsOperationOf o os) → list_any (has_dot (next_operation (meaning_of os) own act).dot) ops ≡ false
issue_fresh ops os own act mine = false_from_ne_true _ (λ t.
    let x = next_operation (meaning_of os) own act in
    let f = found (has_dot x.dot) ops t in
    let e = same_dot_is x.dot f.0.dot f.1.1 in
    let at : f.0.dot.origin ≡ own = sym (ap (λ (y : Dot). y.origin) e) in
    let held = mine f.0 f.1.0 at in
    let known : set.contains (meaning_of os).known f.0.dot ≡ true = known-meaning os f.0.dot ∙ finds (names f.0.dot) os f.0 held (ap (λ b. b || replaces f.0.dot f.0) (same_dot_itself f.0.dot)) in
    let least : f.0.dot.n ≤ greatest_counter f.0.dot.origin (meaning_of os).known = counter-greatest (meaning_of os).known f.0.dot known in
    let bound : f.0.dot.n ≤ greatest_counter own (meaning_of os).known = subst (λ (q : Origin). f.0.dot.n ≤ greatest_counter q (meaning_of os).known) at least in
    let number : greatest_counter own (meaning_of os).known + 1 ≡ f.0.dot.n = ap (λ (y : Dot). y.n) e in
    too_large (greatest_counter own (meaning_of os).known) f.0.dot.n number bound)
  where
    too_large : (g k : ℕ) → g + 1 ≡ k → k ≤ g → ⊥
    too_large g k a b = omega arith

-- the invariant after a node with state s and set os issued more
pub record Grown (ops : List Operation) (n : NodeId) (last : ℕ) (s : StateValue) (os : List Operation) (more : List Operation) : Type 0 where
  pub distinct : DistinctDots (ops ++ more)
  pub set : SetOk (ops ++ more) n last (os ++ more)
  pub state : fold join s (meanings more) ≡ meaning_of (os ++ more)
  pub here : (o : Operation) → IsOperationOf o more → o.dot.origin.node ≡ n

module _ (n : NodeId) (last : ℕ) (own : Origin) (mine : own ≡ own_origin n last) where
  -- an operation of the present incarnation
  grow_set : (ops os : List Operation) (x : Operation) → x.dot.origin ≡ own → SetOk ops n last os → SetOk (ops ++ x ∷ []) n last (os ++ x ∷ [])
  grow_set ops os x origin h = record {
    within = Within-append os (x ∷ []) (ops ++ x ∷ []) (λ o i. In-append_left o ops (x ∷ []) (h.within o i)) (λ o i. In-append_right o ops (x ∷ []) i);
    own = λ o i t. elim (In-append_cases o ops (x ∷ []) i) [ inl a ↦ In-append_left o os (x ∷ []) (h.own o a t) | inr b ↦ In-append_right o os (x ∷ []) b ];
    old = λ o i t. elim (In-append_cases o ops (x ∷ []) i) [
      | inl a ↦ h.old o a t
      | inr b ↦ same_le o.dot.origin.inc last (ap (λ (y : Operation). y.dot.origin.inc) (one_in o x b) ∙ ap (λ (q : Origin). q.inc) (origin ∙ mine))
    ];
  }

  next_origin : (s : StateValue) (x : Operation) → IsNextOf own s x → x.dot.origin ≡ own
  next_origin s x next = ap (λ (o : Operation). o.dot.origin) next.1

  -- the next operation
  grow_one : (ops : List Operation) (s : StateValue) (os : List Operation) (x : Operation) → s ≡ meaning_of os → DistinctDots ops → SetOk ops n last os → IsNextOf own s x → Grown ops n last s os (x ∷ [])
  grow_one ops s os x state d h next =
      let mine_in : (o : Operation) → IsOperationOf o ops → o.dot.origin ≡ own → IsOperationOf o os = λ o i e. h.own o i (e ∙ mine) in
      let is : next_operation (meaning_of os) own next.0 ≡ x = sym (next.1 ∙ ap (λ (v : StateValue). next_operation v own next.0) state) in
      let fresh : list_any (has_dot x.dot) ops ≡ false = subst (λ (y : Operation). list_any (has_dot y.dot) ops ≡ false) is (issue_fresh ops os own next.0 mine_in) in
      let distinct : DistinctDots (ops ++ x ∷ []) = DistinctDots-push ops x d fresh in
      let set : SetOk (ops ++ x ∷ []) n last (os ++ x ∷ []) = grow_set ops os x (next_origin s x next) h in
      record {
        distinct = distinct;
        set = set;
        state = ap (λ (v : StateValue). join v (meaning_of (x ∷ []))) state ∙ join-meaning os (x ∷ []) (Agree-within (os ++ x ∷ []) (ops ++ x ∷ []) set.within (DistinctDots-agree (ops ++ x ∷ []) distinct));
        here = λ o i. ap (λ (y : Operation). y.dot.origin.node) (one_in o x i) ∙ ap (λ (q : Origin). q.node) (next_origin s x next ∙ mine);
      }

  -- operations issued one after another
  pub grow : (ops : List Operation) (s : StateValue) (os more : List Operation) → s ≡ meaning_of os → DistinctDots ops → SetOk ops n last os → AreIssued own s more → Grown ops n last s os more
  grow ops s os [] state d h issued = record {
    distinct = subst DistinctDots (sym (append-nil ops)) d;
    set = subst (λ (p : List Operation × List Operation). SetOk p.0 n last p.1) (λ i. (sym (append-nil ops) i, sym (append-nil os) i)) h;
    state = state ∙ ap meaning_of (sym (append-nil os));
    here = λ o i. absurd i;
  }
  grow ops s os (x ∷ more) state d h issued =
      let one : Grown ops n last s os (x ∷ []) = grow_one ops s os x state d h issued.0 in
      let rest : Grown (ops ++ x ∷ []) n last (join s (meaning_of (x ∷ []))) (os ++ x ∷ []) more = grow (ops ++ x ∷ []) (join s (meaning_of (x ∷ []))) (os ++ x ∷ []) more one.state one.distinct one.set issued.1 in
      let all = append_assoc ops (x ∷ []) more in
      let all_held = append_assoc os (x ∷ []) more in
      record {
        distinct = subst DistinctDots all rest.distinct;
        set = subst (λ (p : List Operation × List Operation). SetOk p.0 n last p.1) (λ i. (all i, all_held i)) rest.set;
        state = rest.state ∙ ap meaning_of all_held;
        here = λ o i. elim i [ inl e ↦ one.here o (inl e) | inr j ↦ rest.here o j ];
      }

-- ---- a node hears operations
pub hear_set : (ops os ps : List Operation) (n : NodeId) (last : ℕ) → AreOperationsOf ps ops → SetOk ops n last os → SetOk ops n last (os ++ ps)
hear_set ops os ps n last inside h = record {
  within = Within-append os ps ops h.within inside;
  own = λ o i t. In-append_left o os ps (h.own o i t);
  old = h.old;
}
