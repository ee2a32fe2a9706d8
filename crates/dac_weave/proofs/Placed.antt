-- The merge keeps its invariant.
use Rattle.std.proofs.Common.{◌≡◌, ◌≢◌, ℕ, zero, suc, ◌+◌, ◌-◌, ◌<◌, ◌≤◌, Bool, true, false, cond, inl, inr, ◌⊎◌, List, [], ◌∷◌, ◌++◌, Option, Some, None, Result, Ok, Err, length, take, drop, get_or, nat_eq, refl, sym, ap, subst, ◌∙◌, append-nil, append_assoc, arith, below_more}
use Rattle.dac_weave.specs.laws.Common.{MatchOption, slice_get, AllZip, take_more, length-set, length-map, slice_get_within, NodeId, Table, Reply, Refusal, Message, Operation, WorldEvent, What, ModelNode, off_after, ModelWorld, start, event_of, JournalValue, Seen, seen_of, seen_in, as_seen, journal_seen, as_world_result, At, IsPrefixOf, Gives, ReproducesPrefixes, IsFirst, node_step, replayed, AreAnswered, run_from, Begins, Weaves, BlockedBetween, IsLeft, IsRecorded}
use Rattle.std.proofs.Math.ListN.{set}
use Rattle.std.proofs.lemmas.List.{take_all, take-append-drop, length-take-le, length-append}
use Rattle.std.proofs.lemmas.Bool.{cases_lt}
use Rattle.dac_weave.specs.declared.cursor.Cursor.{Cursor}
use Rattle.dac_weave.specs.declared.merge.Merge.{Merge}
use Rattle.dac_weave.specs.Woven.{AllFit, IsStuckAt, IsUnwoven}
use Rattle.dac_weave.specs.Names.{issued_in, shipped_in}
use Rattle.dac_weave.specs.Placing.{IsCursor, CanBePlaced, IsBlocked, AllBlocked, Places, PlacesRecord, longer, IsLeftAt, AllWhole, reach, valids_of, Continues}
use Rattle.dac_weave.specs.Seats.{seats_at, seats_of}
use Rattle.dac_weave.specs.Mails.{Moves, Delivers}
use Rattle.dac_weave.specs.laws.Members.{not_true}
use Rattle.dac_weave.specs.laws.Runs.{eq_self, node-after, count-after, seen-append, run-append, steps_node, grows, shipped_of, issued_of}
use Rattle.dac_weave.proofs.Replays.{take-push, journal_seen-at, seats_of-at, so_far}
use Rattle.dac_weave.specs.laws.Recorded.{kept, recorded-gives}
use Rattle.dac_weave.specs.laws.Complete.{Stands, furthest, same_number}
use Rattle.dac_weave.proofs.Least.{one_at}
use Rattle.dac_weave.proofs.Delivered.{delivers-place}

-- ---- lists
same_cursor : (a b : Cursor) → Some a ≡ Some b → a ≡ b
same_cursor a b e = cc

set-cases : {X : Type 0} (xs : List X) (i : ℕ) (x : X) (k : ℕ) (y : X) → slice_get (set xs i x) k ≡ Some y → ((k ≡ i) × (x ≡ y)) ⊎ ((k ≢ i) × (slice_get xs k ≡ Some y))
set-cases [] zero x k y h = cc
set-cases [] (suc i) x k y h = cc
set-cases (z ∷ xs) zero x zero y h = inl (refl, cc)
set-cases (z ∷ xs) zero x (suc k) y h = inr (no, h)
  where
    no : suc k ≡ 0 → ⊥
    no e = omega arith
set-cases (z ∷ xs) (suc i) x zero y h = inr (no, h)
  where
    no : 0 ≡ suc i → ⊥
    no e = omega arith
set-cases (z ∷ xs) (suc i) x (suc k) y h = elim (set-cases xs i x k y h) [
  | inl both ↦ inl (ap suc both.0, both.1)
  | inr both ↦ inr ((λ e. both.0 (less e)), both.1)
]
  where
    less : suc k ≡ suc i → k ≡ i
    less e = omega arith

pub AllZip-length : {A B : Type 0} (R : A → B → Type 0) (xs : List A) (ys : List B) → AllZip R xs ys → length ys ≡ length xs
AllZip-length R [] [] h = refl
AllZip-length R [] (y ∷ ys) h = elim h [ ]
AllZip-length R (x ∷ xs) [] h = elim h [ ]
AllZip-length R (x ∷ xs) (y ∷ ys) h = ap suc (AllZip-length R xs ys h.1)

pub AllZip-at : {A B : Type 0} (R : A → B → Type 0) (xs : List A) (ys : List B) (i : ℕ) (x : A) (y : B) → AllZip R xs ys → slice_get xs i ≡ Some x → slice_get ys i ≡ Some y → R x y
AllZip-at R [] [] i x y h a b = cc
AllZip-at R [] (v ∷ ys) i x y h a b = elim h [ ]
AllZip-at R (u ∷ xs) [] i x y h a b = elim h [ ]
AllZip-at {A} {B} R (u ∷ xs) (v ∷ ys) zero x y h a b = subst (λ v. R x v) (same_b v y b) (subst (λ u. R u v) (same_a u x a) h.0)
  where
    same_a : (p q : A) → Some p ≡ Some q → p ≡ q
    same_a p q e = cc

    same_b : (p q : B) → Some p ≡ Some q → p ≡ q
    same_b p q e = cc
AllZip-at R (u ∷ xs) (v ∷ ys) (suc i) x y h a b = AllZip-at R xs ys i x y h.1 a b

-- ---- placing one
-- a result within the replayed prefix is the step's after the records before it
history-at : (t : Table) (n : NodeId) (d : ModelNode) (xs : List Seen) (g k : ℕ) (x : Seen) → AreAnswered t n d (take g xs) → k < g → At xs k x → x.answer ≡ (node_step t n (replayed t n d (take k xs)) x.event).answer
history-at t n d [] g k x h lt at = cc
history-at t n d (y ∷ xs) zero k x h lt at = absurd (omega arith)
history-at t n d (y ∷ xs) (suc g) zero x h lt at = subst (λ (z : Seen). z.answer ≡ (node_step t n d z.event).answer) (same y x at) h.0
  where
    same : (a b : Seen) → Some a ≡ Some b → a ≡ b
    same a b e = cc
history-at t n d (y ∷ xs) (suc g) (suc k) x h lt at = history-at t n (node_step t n d y.event).node xs g k x h.1 (less lt) at
  where
    less : suc k < suc g → k < g
    less p = omega arith

issued-as_world_result : (a : Result Reply Refusal) → issued_of (as_world_result a) ≡ issued_in a
issued-as_world_result (Ok x) = refl
issued-as_world_result (Err x) = refl

shipped-as_world_result : (a : Result Reply Refusal) → shipped_of (as_world_result a) ≡ shipped_in a
shipped-as_world_result (Ok x) = refl
shipped-as_world_result (Err x) = refl

-- the seat of one more event
seats-push : (n : NodeId) (es : List WorldEvent) (seats : List ℕ) (e : WorldEvent) (seat : ℕ) → length seats ≡ length es → seats_at n (es ++ e ∷ []) (seats ++ seat ∷ []) ≡ seats_at n es seats ++ cond (nat_eq e.node.0 n.0) (seat ∷ []) []
seats-push n [] [] e seat many = refl
seats-push n [] (s ∷ seats) e seat many = absurd (omega arith)
seats-push n (f ∷ es) [] e seat many = absurd (omega arith)
seats-push n (f ∷ es) (s ∷ seats) e seat many =
    ap (λ (xs : List ℕ). cond (nat_eq f.node.0 n.0) (s ∷ xs) xs) (seats-push n es seats e seat (less many))
    ∙ either (nat_eq f.node.0 n.0) (seats_at n es seats) (cond (nat_eq e.node.0 n.0) (seat ∷ []) [])
  where
    less : suc (length seats) ≡ suc (length es) → length seats ≡ length es
    less h = omega arith

    either : (b : Bool) (xs ys : List ℕ) → cond b (s ∷ xs ++ ys) (xs ++ ys) ≡ cond b (s ∷ xs) xs ++ ys
    either true xs ys = refl
    either false xs ys = refl

module _ (t : Table) (js : List JournalValue) (old : Merge) (i : ℕ) (what : What) (w : Weaves t js old) (fit : AllFit js) (ready : CanBePlaced js old i what) where
  abbrev world : ModelWorld
  world = run_from t (start t) old.events.items

  abbrev event : WorldEvent
  event = record { node = ready.journal.beginning.node; what = what }

  placed_event : event_of world.operations world.messages what ≡ Ok ready.next.event
  placed_event = ap (λ os. event_of os world.messages what) (sym w.operations) ∙ (ap (λ ms. event_of old.operations ms what) (sym w.messages) ∙ ready.named)

  here_seen : seen_in t old.events.items ready.journal.beginning.node ≡ take ready.cursor.placed (journal_seen ready.journal)
  here_seen = w.seen i ready.journal ready.cursor ready.at ready.cursor_at

  placed_seen : seen_of t world event ≡ as_seen ready.next
  placed_seen =
      let j = ready.journal in
      let steps = steps_node t j.beginning.node world event (count-after t (start t) old.events.items refl) (eq_self j.beginning.node.0) in
      let history = history-at t j.beginning.node (off_after 0) (journal_seen j) (reach j ready.cursor) ready.cursor.placed (as_seen ready.next) (w.cursors i j ready.cursor ready.at ready.cursor_at).longest.answered ready.left (journal_seen-at j ready.cursor.placed ready.next ready.next_at) in
      let answer : (seen_of t world event).answer ≡ as_world_result ready.next.answer =
      steps.answer
      ∙ (ap (λ d. (node_step t j.beginning.node d (seen_of t world event).event).answer) (node-after t j.beginning.node (start t) old.events.items refl ∙ ap (replayed t j.beginning.node (off_after 0)) here_seen)
      ∙ (ap (λ e. (node_step t j.beginning.node (so_far t j ready.cursor.placed) e).answer) placed_event ∙ sym history)) in
      λ k. record { event = placed_event k; answer = answer k }

  more_seen : (n : NodeId) → seen_in t (old.events.items ++ event ∷ []) n ≡ seen_in t old.events.items n ++ cond (nat_eq ready.journal.beginning.node.0 n.0) (as_seen ready.next ∷ []) []
  more_seen n = seen-append t n (start t) old.events.items (event ∷ []) ∙ ap (λ (x : Seen). seen_in t old.events.items n ++ cond (nat_eq ready.journal.beginning.node.0 n.0) (x ∷ []) []) placed_seen

  more_here : seen_in t (old.events.items ++ event ∷ []) ready.journal.beginning.node ≡ take (ready.cursor.placed + 1) (journal_seen ready.journal)
  more_here =
      more_seen ready.journal.beginning.node
      ∙ (ap (λ b. seen_in t old.events.items ready.journal.beginning.node ++ cond b (as_seen ready.next ∷ []) []) (eq_self ready.journal.beginning.node.0)
      ∙ (ap (λ xs. xs ++ as_seen ready.next ∷ []) here_seen ∙ sym (take-push (journal_seen ready.journal) ready.cursor.placed (as_seen ready.next) (journal_seen-at ready.journal ready.cursor.placed ready.next ready.next_at))))

  more_else : (n : NodeId) → ready.journal.beginning.node ≢ n → seen_in t (old.events.items ++ event ∷ []) n ≡ seen_in t old.events.items n
  more_else n apart =
      more_seen n
      ∙ (ap (λ b. seen_in t old.events.items n ++ cond b (as_seen ready.next ∷ []) []) (not_true (nat_eq ready.journal.beginning.node.0 n.0) (λ e. apart (same_number ready.journal.beginning.node n e)))
      ∙ append-nil (seen_in t old.events.items n))

  more_seats : (n : NodeId) → seats_at n (old.events.items ++ event ∷ []) (old.seats.items ++ ready.next.seat ∷ []) ≡ seats_at n old.events.items old.seats.items ++ cond (nat_eq ready.journal.beginning.node.0 n.0) (ready.next.seat ∷ []) []
  more_seats n = seats-push n old.events.items old.seats.items event ready.next.seat w.many

  seats_here : seats_at ready.journal.beginning.node (old.events.items ++ event ∷ []) (old.seats.items ++ ready.next.seat ∷ []) ≡ take (ready.cursor.placed + 1) (seats_of ready.journal)
  seats_here =
      more_seats ready.journal.beginning.node
      ∙ (ap (λ b. seats_at ready.journal.beginning.node old.events.items old.seats.items ++ cond b (ready.next.seat ∷ []) []) (eq_self ready.journal.beginning.node.0)
      ∙ (ap (λ (xs : List ℕ). xs ++ ready.next.seat ∷ []) (w.seats i ready.journal ready.cursor ready.at ready.cursor_at) ∙ sym (take-push (seats_of ready.journal) ready.cursor.placed ready.next.seat (seats_of-at ready.journal ready.cursor.placed ready.next ready.next_at))))

  seats_else : (n : NodeId) → ready.journal.beginning.node ≢ n → seats_at n (old.events.items ++ event ∷ []) (old.seats.items ++ ready.next.seat ∷ []) ≡ seats_at n old.events.items old.seats.items
  seats_else n apart =
      more_seats n
      ∙ (ap (λ b. seats_at n old.events.items old.seats.items ++ cond b (ready.next.seat ∷ []) []) (not_true (nat_eq ready.journal.beginning.node.0 n.0) (λ e. apart (same_number ready.journal.beginning.node n e)))
      ∙ append-nil (seats_at n old.events.items old.seats.items))

  module _ (new : Merge) (placed : Places js old i what new) (moves : Moves old.mail what new.mail) where
    abbrev does : PlacesRecord old i what new ready.journal ready.cursor ready.next
    does = placed.each ready.journal ready.cursor ready.next ready.at ready.cursor_at ready.next_at

    -- another journal belongs to another node
    apart : (k : ℕ) (b : JournalValue) → At js k b → k ≢ i → ready.journal.beginning.node ≢ b.beginning.node
    apart k b at ne same = fit k b at (inr (i, (ready.journal, (ready.at, ((λ e. ne (sym e)), same)))))

    cursor_cases : (k : ℕ) (s : Cursor) → At new.cursors.items k s → ((k ≡ i) × (longer ready.cursor ≡ s)) ⊎ ((k ≢ i) × At old.cursors.items k s)
    cursor_cases k s sat = set-cases old.cursors.items i (longer ready.cursor) k s (subst (λ ss. slice_get ss k ≡ Some s) does.cursors sat)

    own_journal : (k : ℕ) (b : JournalValue) → At js k b → k ≡ i → ready.journal ≡ b
    own_journal k b at e = one_at js i ready.journal b ready.at (subst (λ m. At js m b) e at)

    up_to : ready.cursor.placed + 1 ≤ reach ready.journal ready.cursor
    up_to = let lt = ready.left in omega arith

    many_more : length new.seats.items ≡ length new.events.items
    many_more =
        let ss : length new.seats.items ≡ length old.seats.items + 1 = ap (λ (xs : List ℕ). length xs) does.seats ∙ length-append old.seats.items (ready.next.seat ∷ []) in
        let es : length new.events.items ≡ length old.events.items + 1 = ap (λ (xs : List WorldEvent). length xs) does.events ∙ length-append old.events.items (event ∷ []) in
        let so_far = w.many in
        omega arith

    seats_so : (n : NodeId) → seats_at n new.events.items new.seats.items ≡ seats_at n (old.events.items ++ event ∷ []) (old.seats.items ++ ready.next.seat ∷ [])
    seats_so n = λ k. seats_at n (does.events k) (does.seats k)

    pub weaves-place : Weaves t js new
    weaves-place = record {
      count = ap (λ (ss : List Cursor). length ss) does.cursors ∙ (length-set old.cursors.items i (longer ready.cursor) ∙ w.count);
      cursors = λ k b s at sat. elim (cursor_cases k s sat) [
        | inl own ↦ subst (λ (x : Cursor). IsCursor t b x) own.1 (subst (λ (x : JournalValue). IsCursor t x (longer ready.cursor)) (own_journal k b at own.0) (record { placed = up_to; longest = (w.cursors i ready.journal ready.cursor ready.at ready.cursor_at).longest }))
        | inr other ↦ w.cursors k b s at other.1
      ];
      seen = λ k b s at sat. ap (λ es. seen_in t es b.beginning.node) does.events ∙ elim (cursor_cases k s sat) as (λ _. seen_in t (old.events.items ++ event ∷ []) b.beginning.node ≡ take s.placed (journal_seen b)) [
        | inl own ↦ subst (λ (x : Cursor). seen_in t (old.events.items ++ event ∷ []) b.beginning.node ≡ take x.placed (journal_seen b)) own.1 (subst (λ (x : JournalValue). seen_in t (old.events.items ++ event ∷ []) x.beginning.node ≡ take (ready.cursor.placed + 1) (journal_seen x)) (own_journal k b at own.0) more_here)
        | inr other ↦ more_else b.beginning.node (apart k b at other.0) ∙ w.seen k b s at other.1
      ];
      others = λ n none. ap (λ es. seen_in t es n) does.events ∙ (more_else n (none i ready.journal ready.at) ∙ w.others n none);
      many = many_more;
      seats = λ k b s at sat. seats_so b.beginning.node ∙ elim (cursor_cases k s sat) as (λ _. seats_at b.beginning.node (old.events.items ++ event ∷ []) (old.seats.items ++ ready.next.seat ∷ []) ≡ take s.placed (seats_of b)) [
        | inl own ↦ subst (λ (x : Cursor). seats_at b.beginning.node (old.events.items ++ event ∷ []) (old.seats.items ++ ready.next.seat ∷ []) ≡ take x.placed (seats_of b)) own.1 (subst (λ (x : JournalValue). seats_at x.beginning.node (old.events.items ++ event ∷ []) (old.seats.items ++ ready.next.seat ∷ []) ≡ take (ready.cursor.placed + 1) (seats_of x)) (own_journal k b at own.0) seats_here)
        | inr other ↦ seats_else b.beginning.node (apart k b at other.0) ∙ w.seats k b s at other.1
      ];
      operations = does.operations ∙ (ap (λ (os : List Operation). os ++ issued_in ready.next.answer) w.operations
          ∙ (ap (λ (os : List Operation). world.operations ++ os) (sym (issued-as_world_result ready.next.answer) ∙ ap (λ (x : Seen). issued_of x.answer) (sym placed_seen))
          ∙ (sym (grows t world event).operations ∙ (ap (λ (v : ModelWorld). v.operations) (sym (run-append t (start t) old.events.items (event ∷ []))) ∙ ap (λ es. (run_from t (start t) es).operations) (sym does.events)))));
      messages = does.messages ∙ (ap (λ (ms : List Message). ms ++ shipped_in ready.next.answer) w.messages
          ∙ (ap (λ (ms : List Message). world.messages ++ ms) (sym (shipped-as_world_result ready.next.answer) ∙ ap (λ (x : Seen). shipped_of x.answer) (sym placed_seen))
          ∙ (sym (grows t world event).messages ∙ (ap (λ (v : ModelWorld). v.messages) (sym (run-append t (start t) old.events.items (event ∷ []))) ∙ ap (λ es. (run_from t (start t) es).messages) (sym does.events)))));
      delivers = subst (Delivers t new.mail) (sym does.events)
          (delivers-place t old.events.items ready.journal.beginning.node what old.mail new.mail old.operations ready.next.event w.delivers w.messages ready.named ready.proper moves);
    }

-- ---- the events and the valid prefixes
valids-set : (ss : List Cursor) (i : ℕ) (s : Cursor) → At ss i s → valids_of (set ss i (longer s)) ≡ valids_of ss
valids-set [] zero s at = cc
valids-set [] (suc i) s at = cc
valids-set (r ∷ ss) zero s at = ap (λ (x : Cursor). x.valid ∷ valids_of ss) (same_cursor s r (sym at))
valids-set (r ∷ ss) (suc i) s at = ap (λ (xs : List ℕ). r.valid ∷ xs) (valids-set ss i s at)

pub continues-self : (l : Merge) → Continues l l
continues-self l = record { valid = refl; more = []; events = sym (append-nil l.events.items) }

pub continues-place : (js : List JournalValue) (first old : Merge) (i : ℕ) (what : What) (new : Merge) → Continues first old → CanBePlaced js old i what → Places js old i what new → Continues first new
continues-place js first old i what new c ready placed =
    let does = placed.each ready.journal ready.cursor ready.next ready.at ready.cursor_at ready.next_at in
    let event : WorldEvent = record { node = ready.journal.beginning.node; what = what } in
    record {
      valid = ap valids_of does.cursors ∙ valids-set old.cursors.items i ready.cursor ready.cursor_at ∙ c.valid;
      more = c.more ++ event ∷ [];
      events = does.events ∙ ap (λ (es : List WorldEvent). es ++ event ∷ []) c.events ∙ append_assoc first.events.items c.more (event ∷ []);
    }

-- ---- seeking
pub still-more : (js : List JournalValue) (l : Merge) (low i : ℕ) → BlockedBetween js l low i → IsBlocked js l i → BlockedBetween js l low (i + 1)
still-more js l low i before here k le lt = below_more (λ m. low ≤ m → IsBlocked js l m) i (λ m less from. before m from less) (λ _. here) k lt le

pub still-all : (js : List JournalValue) (l : Merge) (from high : ℕ) → high ≡ length js → BlockedBetween js l from high → BlockedBetween js l 0 from → AllBlocked js l
still-all js l from high long above below i lt = elim (cases_lt i from) [
  | inl less ↦ below i (omega arith) less
  | inr more ↦ above i more (omega arith)
]

pub still-found : (js : List JournalValue) (l : Merge) (from high : ℕ) → high ≡ length js → BlockedBetween js l from high → {X : Type 0} (Q : X → Type 0) (o : Option X) → MatchOption o (BlockedBetween js l 0 from) Q → MatchOption o (AllBlocked js l) Q
still-found js l from high long above Q None h = still-all js l from high long above h
still-found js l from high long above Q (Some x) h = h

-- ---- the list of cursors
pub both_push : {A B : Type 0} (R : A → B → Type 0) (xs : List A) (ys : List B) (x : A) (y : B) → AllZip R xs ys → R x y → AllZip R (xs ++ x ∷ []) (ys ++ y ∷ [])
both_push R [] [] x y h r = (r, tt)
both_push R [] (v ∷ ys) x y h r = elim h [ ]
both_push R (u ∷ xs) [] x y h r = elim h [ ]
both_push R (u ∷ xs) (v ∷ ys) x y h r = (h.0, both_push R xs ys x y h.1 r)

pub begun_more : (t : Table) (js : List JournalValue) (i : ℕ) (j : JournalValue) (ss more : List Cursor) (s : Cursor) → i < length js → j ≡ get_or js i j → AllZip (Begins t) (take i js) ss → Begins t j s → more ≡ ss ++ s ∷ [] → AllZip (Begins t) (take (i + 1) js) more
begun_more t js i j ss more s lt read zip begins is =
    subst (λ (ys : List Cursor). AllZip (Begins t) (take (i + 1) js) ys) (sym is)
    (subst (λ (xs : List JournalValue). AllZip (Begins t) xs (ss ++ s ∷ [])) (sym (take_more js i j lt ∙ ap (λ x. take i js ++ x ∷ []) (sym read)))
    (both_push (Begins t) (take i js) ss j s zip begins))

-- ---- the number of unplaced records, which decreases
pub unplaced : List JournalValue → List Cursor → ℕ
unplaced [] ss = 0
unplaced (j ∷ js) [] = 0
unplaced (j ∷ js) (s ∷ ss) = (length j.records - s.placed) + unplaced js ss

unplaced-set : (js : List JournalValue) (ss : List Cursor) (i : ℕ) (j : JournalValue) (s : Cursor) → At js i j → At ss i s → s.placed < length j.records → unplaced js (set ss i (longer s)) < unplaced js ss
unfolding unplaced
unplaced-set [] ss i j s at sat lt = cc
unplaced-set (k ∷ js) [] i j s at sat lt = cc
unplaced-set (k ∷ js) (r ∷ ss) zero j s at sat lt =
    let p : r.placed ≡ s.placed = ap (λ (x : Cursor). x.placed) (same_cursor r s sat) in
    let q : length k.records ≡ length j.records = ap (λ (x : JournalValue). length x.records) (same k j at) in
    less (length k.records) (length j.records) r.placed s.placed (unplaced js ss) q p lt
  where
    same : (a b : JournalValue) → Some a ≡ Some b → a ≡ b
    same a b e = cc

    less : (m n a b u : ℕ) → m ≡ n → a ≡ b → b < n → (m - (b + 1)) + u < (m - a) + u
    less m n a b u e f lt = omega arith
unplaced-set (k ∷ js) (r ∷ ss) (suc i) j s at sat lt = let h = unplaced-set js ss i j s at sat lt in omega arith

pub unplaced-place : (t : Table) (js : List JournalValue) (old : Merge) (i : ℕ) (what : What) (new : Merge) → Weaves t js old → CanBePlaced js old i what → Places js old i what new → unplaced js new.cursors.items < unplaced js old.cursors.items
unplaced-place t js old i what new w ready placed =
    subst (λ ss. unplaced js ss < unplaced js old.cursors.items) (sym (placed.each ready.journal ready.cursor ready.next ready.at ready.cursor_at ready.next_at).cursors)
    (unplaced-set js old.cursors.items i ready.journal ready.cursor ready.at ready.cursor_at within)
  where
    within : ready.cursor.placed < length ready.journal.records
    within = let a = ready.left in let b = (w.cursors i ready.journal ready.cursor ready.at ready.cursor_at).longest.within in omega arith

-- ---- no record can be placed
at_end : (xs : List Seen) (x : Seen) (rest : List Seen) → slice_get ((xs ++ x ∷ []) ++ rest) (length xs) ≡ Some x
at_end [] x rest = refl
at_end (y ∷ xs) x rest = at_end xs x rest

at_front : (all : List Seen) (k : ℕ) (x : Seen) (rest : List Seen) → k ≤ length all → all ≡ (take k all ++ x ∷ []) ++ rest → slice_get all k ≡ Some x
at_front all k x rest le e =
    ap (λ xs. slice_get xs k) e ∙ (ap (slice_get ((take k all ++ x ∷ []) ++ rest)) (sym (length-take-le k all le)) ∙ at_end (take k all) x rest)

journal_seen-long : (t : Table) (j : JournalValue) (s : Cursor) → IsCursor t j s → s.placed ≤ length (journal_seen j)
journal_seen-long t j s k = let a = k.placed in let b = k.longest.within in rw length-map (omega arith)

pub stands : (t : Table) (js : List JournalValue) (l : Merge) → Weaves t js l → AllBlocked js l → Stands t js l.events.items
stands t js l w still i j at x front answer what named =
    let k = still i (slice_get_within js i j at) in
    let same : k.journal ≡ j = one_at js i k.journal j k.at at in
    let cursor : IsCursor t j k.cursor = w.cursors i j k.cursor at k.cursor_at in
    let seen : seen_in t l.events.items j.beginning.node ≡ take k.cursor.placed (journal_seen j) = w.seen i j k.cursor at k.cursor_at in
    let there : At (journal_seen j) k.cursor.placed x = at_front (journal_seen j) k.cursor.placed x front.0 (journal_seen-long t j k.cursor cursor) (front.1 ∙ ap (λ xs. (xs ++ x ∷ []) ++ front.0) seen) in
    elim k.cause [
      | inl used ↦
          let past : reach j k.cursor ≤ k.cursor.placed = subst (λ (y : JournalValue). reach y k.cursor ≤ k.cursor.placed) same used in
          let whole : k.cursor.placed ≡ reach j k.cursor = (let a = cursor.placed in omega arith) in
          cursor.longest.ends x (subst (λ n. At (journal_seen j) n x) whole there)
          (answer ∙ ap (λ d. (node_step t j.beginning.node d x.event).answer) (node-after t j.beginning.node (start t) l.events.items refl ∙ ap (replayed t j.beginning.node (off_after 0)) (seen ∙ ap (λ n. take n (journal_seen j)) whole)))
      | inr next ↦
          let r = next.0 in
          let is : x ≡ as_seen r = same_seen x (as_seen r) (sym there ∙ journal_seen-at j k.cursor.placed r (subst (λ (y : JournalValue). At y.records k.cursor.placed r) same next.1.0)) in
          next.1.1 what (ap (λ os. event_of os l.mail.shipped what) w.operations ∙ (ap (λ ms. event_of (run_from t (start t) l.events.items).operations ms what) w.messages ∙ (named ∙ ap (λ (y : Seen). y.event) is)))
    ]
  where
    same_seen : (a b : Seen) → Some a ≡ Some b → a ≡ b
    same_seen a b e = cc

-- ---- the end
-- the records left of a journal are those after its cursor
pub left_only : (js : List JournalValue) (ss : List Cursor) (i : ℕ) (j : JournalValue) (s : Cursor) → At js i j → At ss i s → (s.placed < length j.records → ⊥) → (b : JournalValue) → At js i b → IsLeft ss i b → ⊥
left_only js ss i j s at sat not b there left =
    let same : b ≡ j = one_at js i b j there at in
    not (subst (λ (x : JournalValue). s.placed < length x.records) same (subst (λ (x : Cursor). x.placed < length b.records) (same_cursor left.0 s (sym left.1.0 ∙ sat)) left.1.1))

take-whole : (j : JournalValue) (k : ℕ) → length j.records ≤ k → take k (journal_seen j) ≡ journal_seen j
take-whole j k h = take_all k (journal_seen j) (rw length-map h)

not_below : (a b : ℕ) → (a < b → ⊥) → b ≤ a
not_below a b h = omega arith

-- two lists of one length have the same places
pub there_too : {A B : Type 0} (xs : List A) (ys : List B) (i : ℕ) (x : A) → length ys ≡ length xs → At xs i x → (y : B) × At ys i y
there_too [] [] i x e at = cc
there_too [] (y ∷ ys) i x e at = absurd (omega arith)
there_too (z ∷ xs) [] i x e at = absurd (omega arith)
there_too (z ∷ xs) (y ∷ ys) zero x e at = (y, refl)
there_too (z ∷ xs) (y ∷ ys) (suc i) x e at = there_too xs ys i x (less e) at
  where
    less : suc (length ys) ≡ suc (length xs) → length ys ≡ length xs
    less e = omega arith

module _ (t : Table) (js : List JournalValue) (l : Merge) (w : Weaves t js l) where
  -- a journal placed whole is reproduced whole
  pub given_whole : (i : ℕ) (j : JournalValue) → At js i j → (IsLeft l.cursors.items i j → ⊥) → seen_in t l.events.items j.beginning.node ≡ journal_seen j
  given_whole i j at not =
      let s = there_too js l.cursors.items i j w.count at in
      w.seen i j s.0 at s.1 ∙ take-whole j s.0.placed (not_below s.0.placed (length j.records) (λ lt. not (s.0, (s.1, lt))))

  pub seats_whole : (i : ℕ) (j : JournalValue) → At js i j → (IsLeft l.cursors.items i j → ⊥) → seats_at j.beginning.node l.events.items l.seats.items ≡ seats_of j
  seats_whole i j at not =
      let s = there_too js l.cursors.items i j w.count at in
      let all = not_below s.0.placed (length j.records) (λ lt. not (s.0, (s.1, lt))) in
      w.seats i j s.0 at s.1 ∙ take_all s.0.placed (seats_of j) (rw length-map all)

module _ (t : Table) (js : List JournalValue) (l : Merge) (w : Weaves t js l) (fit : AllFit js) where
  pub gives : AllWhole js l.cursors.items → Gives t js l.events.items
  gives whole = record { fit = fit; each = λ i j at. given_whole t js l w i j at (whole i j at); others = w.others }

  pub gives_fronts : ReproducesPrefixes t js l.events.items
  gives_fronts = record {
    each = λ i j at.
        let s = there_too js l.cursors.items i j w.count at in
        (drop s.0.placed (journal_seen j), sym (take-append-drop s.0.placed (journal_seen j)) ∙ ap (λ xs. xs ++ drop s.0.placed (journal_seen j)) (sym (w.seen i j s.0 at s.1)));
    others = w.others;
  }

  front_length : (xs ys : List Seen) → IsPrefixOf xs ys → length xs ≤ length ys
  front_length xs ys f = let e = ap (λ (zs : List Seen). length zs) f.1 ∙ length-append xs f.0 in omega arith

  pub stuck : AllBlocked js l → (i : ℕ) (j : JournalValue) (s : Cursor) → IsFirst js (IsLeft l.cursors.items) i j → At l.cursors.items i s → IsStuckAt t js i j (s.placed + 1)
  stuck still i j s first sat =
      let at = first.there in
      let left = first.is in
      let own : left.0 ≡ s = same_cursor left.0 s (sym left.1.0 ∙ sat) in
      let cursor = w.cursors i j s at sat in
      let placed : length (seen_in t l.events.items j.beginning.node) ≡ s.placed =
      ap (λ (xs : List Seen). length xs) (w.seen i j s at sat) ∙ length-take-le s.placed (journal_seen j) (journal_seen-long t j s cursor) in
      record {
        there = at;
        within = next (subst (λ (x : Cursor). x.placed < length j.records) own left.1.1);
        reached = (l.events.items, (gives_fronts, (ap (λ n. n + 1) placed, λ k b there lt. given_whole t js l w k b there (λ more. before (first.least k b there more) lt))));
        never = λ es fronts. below (front_length _ _ (furthest t js l.events.items gives_fronts (stands t js l w still) es fronts j.beginning.node)) placed;
      }
    where
      next : {a b : ℕ} → a < b → a + 1 ≤ b
      next h = omega arith

      before : {a b : ℕ} → a ≤ b → b < a → ⊥
      before h k = omega arith

      below : {a b c : ℕ} → a ≤ b → b ≡ c → a < c + 1
      below h k = omega arith

-- ---- the fault
-- no run reproduces journals that a fault names
pub gives_fronts-of : (t : Table) (js : List JournalValue) (es : List WorldEvent) → Gives t js es → ReproducesPrefixes t js es
gives_fronts-of t js es g = record {
  each = λ i j at. ([], sym (g.each i j at) ∙ sym (append-nil (seen_in t es j.beginning.node)));
  others = g.others;
}

pub none_gives : (t : Table) (js : List JournalValue) (node : NodeId) (place : ℕ) → IsUnwoven t js node place → (es : List WorldEvent) → Gives t js es → ⊥
none_gives t js node place u es g = elim u.cause [
  | inl unfit ↦ g.fit u.index u.journal unfit.1.there unfit.1.is
  | inr stuck ↦ short (stuck.1.never es (gives_fronts-of t js es g)) (ap (λ (xs : List Seen). length xs) (g.each u.index u.journal stuck.1.there) ∙ length-map u.journal.records as_seen) stuck.1.within
]
  where
    short : {a b c : ℕ} → a < b → a ≡ c → b ≤ c → ⊥
    short h k m = omega arith

-- no run records them
pub none_recorded : (t : Table) (js : List JournalValue) (node : NodeId) (place : ℕ) → IsUnwoven t js node place → (es : List WorldEvent) → IsRecorded t js es → ⊥
none_recorded t js node place u es recorded = none_gives t js node place u (kept t (start t) es) (recorded-gives t js es recorded)

-- ---- the code's final test
module _ (t : Table) (js : List JournalValue) (l : Merge) (w : Weaves t js l) (fit : AllFit js) (still : AllBlocked js l) (node : NodeId) (place : ℕ) (left : IsLeftAt js l.cursors.items node place) where
  pub unwoven : IsUnwoven t js node place
  unwoven = record {
    journal = left.journal;
    index = left.index;
    node_is = left.node_is;
    cause = inr (fit, subst (IsStuckAt t js left.index left.journal) left.place_is (stuck t js l w fit still left.index left.journal left.cursor left.first left.cursor_at));
  }
