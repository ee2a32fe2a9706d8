-- Each round settles one more application, if one is left. In a round a node holds the common set of the round's
-- beginning, with added claims that are good at it. A good claim settles its application for good. The candidate of an
-- unsettled application runs and ticks. By its tick it knows such a claim or makes one, because otherwise its set is
-- the common one.
use Rattle.std.proofs.Common.{◌≡◌, ◌⊎◌, ℕ, ◌+◌, ◌<◌, ◌≤◌, Bool, true, false, cond, List, [], ◌∷◌, ◌++◌, length, Option, Some, None, zero, suc, refl, sym, ap, subst, ◌∙◌, arith, inl, inr, append_assoc, append-nil}
use Rattle.dac_settle.specs.laws.Common.{IsSome, true≢false, false≢true, eqb-true, NodeId, AppId, Operation, IsOperationOf, AreOperationsOf, In-append_left, In-append_right, In-append_cases, Held, IsApp, IsGrown, IsPlacement, SetsEvent, Sets, InCopies, with_held}
use Rattle.std.specs.Prelude.{nat_eq}
use Rattle.std.specs.Option.{is_some}
use Rattle.std.proofs.lemmas.Bool.{eq-eqb}
use Rattle.dac_settle.specs.Rounds.{Placement, IsWellMade, Claims, Happens, Run, Ticks, IsReady, IsRound, Rounds}
use Rattle.dac_settle.specs.Rounds.SetsEvent.{Tick, Ship, Deliver}
use Rattle.dac_settle.specs.laws.Counting.{count, count_few, count_none, none_count, some_or_none, count_le, count_lt}

-- ---- lists and options

pub in_copies : (x : List Operation) (ys : List (List Operation)) (z : List Operation) → InCopies x (ys ++ z ∷ []) → InCopies x ys ⊎ (x ≡ z)
in_copies x [] z h = elim h [ inl same ↦ inr same | inr none ↦ absurd none ]
in_copies x (y ∷ ys) z h = elim h [
  | inl same ↦ inl (inl same)
  | inr rest ↦ elim (in_copies x ys z rest) [ inl old ↦ inl (inr old) | inr new ↦ inr new ]
]

pub same_node : {m n : NodeId} → nat_eq m.0 n.0 ≡ true → m ≡ n
same_node {m = m} {n = n} e = let same : m.0 ≡ n.0 = eqb-true m.0 n.0 e in λ i. record { 0 = same i }

pub one : {X : Type 0} {a b : X} → ◌≡◌ {A = Option X} (Some a) (Some b) → a ≡ b
one e = cc

pub is_none : {X : Type 0} (o : Option X) → is_some o ≡ false → o ≡ None
is_none None e = refl
is_none (Some x) e = absurd (true≢false e)

pub some_is : {X : Type 0} (o : Option X) → is_some o ≡ true → (x : X) × (o ≡ Some x)
some_is None e = absurd (false≢true e)
some_is (Some x) e = (x, refl)

module _ (p : Placement) where
  -- ---- sets in a round
  module _ (s : List Operation) where
    pub grown_itself : IsGrown p s s
    grown_itself = record { keeps = λ o h. h; new = λ o h. inl h }

    pub grown_united : (x y : List Operation) → IsGrown p s x → IsGrown p s y → IsGrown p s (x ++ y)
    grown_united x y g h = record {
      keeps = λ o i. In-append_left o x y (g.keeps o i);
      new = λ o i. elim (In-append_cases o x y i) [ inl l ↦ g.new o l | inr r ↦ h.new o r ];
    }

    pub grown_by : (x : List Operation) (o : Operation) → IsGrown p s x → IsWellMade p s o → IsGrown p s (x ++ o ∷ [])
    grown_by x o g well = record {
      keeps = λ q i. In-append_left q x (o ∷ []) (g.keeps q i);
      new = λ q i. elim (In-append_cases q x (o ∷ []) i) [
        | inl l ↦ g.new q l
        | inr r ↦ elim r [ inl same ↦ inr (subst (IsWellMade p s) (sym same) well) | inr none ↦ absurd none ]
      ];
    }

    -- a good claim is in the set
    abbrev pub HasNew : List Operation → Type 0
    HasNew x = (o : Operation) × IsOperationOf o x × IsWellMade p s o

    more_new : (x y : List Operation) → AreOperationsOf x y → HasNew x → HasNew y
    more_new x y w h = (h.0, w h.0 h.1, h.2)

    new_or_same : (x : List Operation) → ((o : Operation) → IsOperationOf o x → IsOperationOf o s ⊎ IsWellMade p s o) → HasNew x ⊎ AreOperationsOf x s
    new_or_same [] new = inr (λ o h. absurd h)
    new_or_same (o ∷ os) new = elim (new o (inl refl)) [
      | inl old ↦ elim (new_or_same os (λ q i. new q (inr i))) [
        | inl found ↦ inl (more_new os (o ∷ os) (λ q i. inr i) found)
        | inr within ↦ inr (λ q i. elim i [ inl same ↦ subst (λ r. IsOperationOf r s) (sym same) old | inr rest ↦ within q rest ])
      ]
      | inr well ↦ inl (o, inl refl, well)
    ]

  module _ (law : IsPlacement p) (s : List Operation) where
    -- the applications are of the configuration
    abbrev pub AreApps : List AppId → Type 0
    AreApps apps = (app : AppId) → IsApp app apps → IsApp app p.apps

    -- ---- a tick

    pub tick_grown : (n : NodeId) (apps : List AppId) (x made : List Operation) → AreApps apps → IsGrown p s x → Claims p n apps x made → IsGrown p s (x ++ made)
    tick_grown n [] x made are g c = subst (λ m. IsGrown p s (x ++ m)) (sym c) (subst (IsGrown p s) (sym (append-nil x)) g)
    tick_grown n (app ∷ apps) x made are g c = elim c [
      | inl mine ↦
          let o = p.claim n x app in
          let well : IsWellMade p s o = (app, are app (inl refl), law.well s x app n g mine.1) in
          subst (λ m. IsGrown p s (x ++ m)) (sym mine.2) (subst (IsGrown p s) (append_assoc x (o ∷ []) mine.0)
          (tick_grown n apps (x ++ o ∷ []) mine.0 (λ b i. are b (inr i)) (grown_by s x o g well) mine.3))
      | inr other ↦ tick_grown n apps x made (λ b i. are b (inr i)) g other.1
    ]

    -- the tick of a candidate leaves a good claim
    tick_new : (n : NodeId) (apps : List AppId) (x made : List Operation) (app : AppId) → AreApps apps → IsGrown p s x → Claims p n apps x made → IsApp app apps → p.candidate s app ≡ Some n → HasNew s (x ++ made)
    tick_new n [] x made app are g c i is = absurd i
    tick_new n (b ∷ apps) x made app are g c i is = elim c [
      | inl mine ↦
          let o = p.claim n x b in
          (o, subst (λ m. IsOperationOf o (x ++ m)) (sym mine.2) (In-append_right o x (o ∷ mine.0) (inl refl)), (b, are b (inl refl), law.well s x b n g mine.1))
      | inr other ↦ elim i [
        | inl same ↦ elim (new_or_same s x g.new) [
          | inl found ↦ more_new s x (x ++ made) (λ o h. In-append_left o x made h) found
          | inr within ↦ absurd (other.0 (law.alike x s b within g.keeps ∙ ap (p.candidate s) (sym same) ∙ is))
        ]
        | inr later ↦ tick_new n apps x made app (λ d j. are d (inr j)) g other.1 later is
      ]
    ]

    -- ---- a run within a round

    abbrev pub AllGrown : Held → Type 0
    AllGrown held = (n : NodeId) (x : List Operation) → held n ≡ Some x → IsGrown p s x

    pub record IsSound (w : Sets) : Type 0 where
      pub held : AllGrown w.held
      pub copies : (x : List Operation) → InCopies x w.copies → IsGrown p s x

    put_here : (held : Held) (n : NodeId) (x : List Operation) → with_held held n x n ≡ Some x
    put_here held n x = ap (λ b. cond b (Some x) (held n)) (eq-eqb n.0 n.0 refl)

    put_grown : (held : Held) (n : NodeId) (x : List Operation) → AllGrown held → IsGrown p s x → AllGrown (with_held held n x)
    put_grown held n x all g m y e = by_test (nat_eq m.0 n.0) e
      where
        by_test : (b : Bool) → cond b (Some x) (held m) ≡ Some y → IsGrown p s y
        by_test true e = subst (IsGrown p s) (one e) g
        by_test false e = all m y e

    happens_sound : (w next : Sets) (e : SetsEvent) → IsSound w → Happens p w e next → IsSound next
    happens_sound w next (Tick n made) sound h =
        subst IsSound (sym h.3) (record {
          held = put_grown w.held n (h.0 ++ made) sound.held (tick_grown n p.apps h.0 made (λ app i. i) (sound.held n h.0 h.1) h.2);
          copies = sound.copies;
        })
    happens_sound w next (Ship n) sound h =
        subst IsSound (sym h.2) (record {
          held = sound.held;
          copies = λ x i. elim (in_copies x w.copies h.0 i) [
            | inl old ↦ sound.copies x old
            | inr same ↦ subst (IsGrown p s) (sym same) (sound.held n h.0 h.1)
          ];
        })
    happens_sound w next (Deliver n) sound h =
        subst IsSound (sym h.4) (record {
          held = put_grown w.held n (h.0 ++ h.1) sound.held (grown_united s h.0 h.1 (sound.held n h.0 h.2) (sound.copies h.1 h.3));
          copies = sound.copies;
        })

    pub run_sound : (es : List SetsEvent) (w final : Sets) → IsSound w → Run p w es final → IsSound final
    run_sound [] w final sound r = subst IsSound (sym r) sound
    run_sound (e ∷ es) w final sound r = run_sound es r.0 final (happens_sound w r.0 e sound r.1) r.2

    -- ---- sets only grow, and a node that ticks gains a claim

    -- node n then holds at least the set x
    abbrev pub HoldsMore : List Operation → Held → NodeId → Type 0
    HoldsMore x held n = (y : List Operation) × (held n ≡ Some y) × AreOperationsOf x y

    put_grows : (held : Held) (m n : NodeId) (z x more : List Operation) → held m ≡ Some z → held n ≡ Some x → HoldsMore x (with_held held m (z ++ more)) n
    put_grows held m n z x more of_m of_n = by_test (nat_eq n.0 m.0) refl
      where
        by_test : (b : Bool) → nat_eq n.0 m.0 ≡ b → (y : List Operation) × (cond b (Some (z ++ more)) (held n) ≡ Some y) × AreOperationsOf x y
        by_test true e = (z ++ more, refl, λ o i. In-append_left o z more (subst (IsOperationOf o) (one (sym of_n ∙ ap held (same_node e) ∙ of_m)) i))
        by_test false e = (x, of_n, λ o i. i)

    grows : (w next : Sets) (e : SetsEvent) (n : NodeId) (x : List Operation) → Happens p w e next → w.held n ≡ Some x → HoldsMore x next.held n
    grows w next (Tick m made) n x h e = subst (λ (v : Sets). HoldsMore x v.held n) (sym h.3) (put_grows w.held m n h.0 x made h.1 e)
    grows w next (Ship m) n x h e = subst (λ (v : Sets). HoldsMore x v.held n) (sym h.2) (x, e, λ o i. i)
    grows w next (Deliver m) n x h e = subst (λ (v : Sets). HoldsMore x v.held n) (sym h.4) (put_grows w.held m n h.0 x h.1 h.2 e)

    pub run_grows : (es : List SetsEvent) (w final : Sets) (n : NodeId) (x : List Operation) → Run p w es final → w.held n ≡ Some x → HoldsMore x final.held n
    run_grows [] w final n x r e = (x, ap (λ (v : Sets). v.held n) r ∙ e, λ o i. i)
    run_grows (event ∷ es) w final n x r e =
        let here = grows w r.0 event n x r.1 e in
        let rest = run_grows es r.0 final n here.0 r.2 here.1 in
        (rest.0, rest.1, λ o i. rest.2 o (here.2 o i))

    -- a node that runs after events ran before them
    put_back : (held : Held) (m n : NodeId) (z : List Operation) → IsSome (held m) → IsSome (with_held held m z n) → IsSome (held n)
    put_back held m n z of_m e = by_test (nat_eq n.0 m.0) refl e
      where
        by_test : (b : Bool) → nat_eq n.0 m.0 ≡ b → IsSome (cond b (Some z) (held n)) → IsSome (held n)
        by_test true e h = ap (λ i. is_some (held i)) (same_node e) ∙ of_m
        by_test false e h = h

    back : (w next : Sets) (e : SetsEvent) (n : NodeId) → Happens p w e next → IsSome (next.held n) → IsSome (w.held n)
    back w next (Tick m made) n h e = put_back w.held m n (h.0 ++ made) (ap is_some h.1) (subst (λ (v : Sets). IsSome (v.held n)) h.3 e)
    back w next (Ship m) n h e = subst (λ (v : Sets). IsSome (v.held n)) h.2 e
    back w next (Deliver m) n h e = put_back w.held m n (h.0 ++ h.1) (ap is_some h.2) (subst (λ (v : Sets). IsSome (v.held n)) h.4 e)

    pub run_back : (es : List SetsEvent) (w final : Sets) (n : NodeId) → Run p w es final → IsSome (final.held n) → IsSome (w.held n)
    run_back [] w final n r e = subst (λ (v : Sets). IsSome (v.held n)) r e
    run_back (event ∷ es) w final n r e = back w r.0 event n r.1 (run_back es r.0 final n r.2 e)

    -- after the tick of a candidate at the round's beginning, its node holds a good claim
    pub run_new : (es : List SetsEvent) (w final : Sets) (n : NodeId) (app : AppId) → IsSound w → Run p w es final → p.candidate s app ≡ Some n → IsApp app p.apps → Ticks n es
        → (y : List Operation) × (final.held n ≡ Some y) × HasNew s y
    run_new [] w final n app sound r is i t = absurd t
    run_new (event ∷ es) w final n app sound r is i t = elim t [
      | inl now ↦
          let h = subst (λ (e : SetsEvent). Happens p w e r.0) (sym now.1) r.1 in
          let new = tick_new n p.apps h.0 now.0 app (λ b j. j) (sound.held n h.0 h.1) h.2 i is in
          let rest = run_grows es r.0 final n (h.0 ++ now.0) r.2 (ap (λ (v : Sets). v.held n) h.3 ∙ put_here w.held n (h.0 ++ now.0)) in
          (rest.0, rest.1, more_new s (h.0 ++ now.0) rest.0 rest.2 new)
      | inr later ↦ run_new es r.0 final n app (happens_sound w r.0 event sound r.1) r.2 is i later
    ]

  -- ---- a round

  -- the number of unsettled applications by a set
  abbrev pub unsettled : List Operation → ℕ
  unsettled x = count (λ app. is_some (p.candidate x app)) p.apps

  module _ (law : IsPlacement p) (held later : Held) (ready : IsReady p held) (round : IsRound p held later) (m : NodeId) (s : List Operation) (of_m : held m ≡ Some s) where
    abbrev first : Sets
    first = record { held = held; copies = [] }

    abbrev last : Sets
    last = record { held = later; copies = round.copies }

    at_start : IsSound law s first
    at_start = record {
      held = λ n x e. record { keeps = ready.same m n s x of_m e; new = λ o i. inl (ready.same n m x s e of_m o i) };
      copies = λ x i. absurd i;
    }

    at_end : IsSound law s last
    at_end = run_sound law s round.events first last at_start round.run

    -- node m still runs
    goes_on : HoldsMore law s s later m
    goes_on = run_grows law s round.events first last m s round.run of_m

    -- a good claim, made or known by the candidate, is at node m at the end
    new_at_end : (app : AppId) (n : NodeId) (x : List Operation) → IsApp app p.apps → p.candidate s app ≡ Some n → later m ≡ Some x → HasNew s x
    new_at_end app n x i is of_x =
        let runs = ready.runs m n s of_m (law.live s app n is) in
        let new = run_new law s round.events first last n app at_start round.run is i (round.ticks n runs) in
        more_new s new.0 x (round.same n m new.0 x new.1 of_x) new.2

    -- settled applications stay settled, and if one wasn't, fewer are unsettled
    fewer : (x : List Operation) → later m ≡ Some x → (k : ℕ) → unsettled s ≤ k + 1 → unsettled x ≤ k
    fewer x of_x k le =
        let grown = at_end.held m x of_x in
        let narrower : (app : AppId) → is_some (p.candidate s app) ≡ false → is_some (p.candidate x app) ≡ false = λ app e. ap is_some (law.stays s x app grown (is_none (p.candidate s app) e)) in
        elim (some_or_none (λ app. is_some (p.candidate s app)) p.apps) [
          | inl found ↦
              let n = some_is (p.candidate s found.0) found.2 in
              let new = new_at_end found.0 n.0 x found.1 n.1 of_x in
              let app = new.2.0 in
              let lt : unsettled x < unsettled s = count_lt (λ b. is_some (p.candidate s b)) (λ b. is_some (p.candidate x b)) narrower p.apps app new.2.1 (law.unsettled s app new.0 new.2.2) (ap is_some (law.settles s x app new.0 grown new.1 new.2.2)) in
              omega arith
          | inr none ↦
              let fewest : unsettled x ≤ unsettled s = count_le (λ b. is_some (p.candidate s b)) (λ b. is_some (p.candidate x b)) narrower p.apps in
              let zero_left : unsettled s ≡ 0 = none_count (λ b. is_some (p.candidate s b)) p.apps none in
              omega arith
        ]

    -- the next round begins in a ready world too
    ready_again : IsReady p later
    ready_again = record {
      same = round.same;
      runs = λ n q x of_n alive.
          let before = law.lives s x q (at_end.held n x of_n) alive in
          let was = some_is (held q) (ready.runs m q s of_m before) in
          ap is_some (run_grows law s round.events first last q was.0 round.run was.1).1;
    }

  -- ---- rounds

  module _ (law : IsPlacement p) where
    settle : (k : ℕ) (held final : Held) → IsReady p held → Rounds p k held final → (m : NodeId) (s x : List Operation) → held m ≡ Some s → final m ≡ Some x → unsettled s ≤ k → unsettled x ≡ 0
    settle zero held final ready r m s x of_s of_x le =
        let same : x ≡ s = one (sym of_x ∙ ap (λ (h : Held). h m) r ∙ of_s) in
        subst (λ y. unsettled y ≡ 0) (sym same) (omega arith)
    settle (suc k) held final ready r m s x of_s of_x le =
        let next = goes_on law held r.0 ready r.1 m s of_s in
        settle k r.0 final (ready_again law held r.0 ready r.1 m s of_s) r.2 m next.0 x next.1 of_x (fewer law held r.0 ready r.1 m s of_s next.0 next.1 k (omega arith))

    rounds_back : (k : ℕ) (held final : Held) (n : NodeId) → Rounds p k held final → IsSome (final n) → IsSome (held n)
    rounds_back zero held final n r e = subst (λ (h : Held). IsSome (h n)) r e
    rounds_back (suc k) held final n r e =
        run_back law [] r.1.events (record { held = held; copies = [] }) (record { held = r.0; copies = r.1.copies }) n r.1.run (rounds_back k r.0 final n r.2 e)

    -- after as many rounds as there are applications, begun in a ready world, all are settled at each running node
    pub any_settle : (held final : Held) → IsReady p held → Rounds p (length p.apps) held final
        → (m : NodeId) (x : List Operation) → final m ≡ Some x → (app : AppId) → IsApp app p.apps → p.candidate x app ≡ None
    any_settle held final ready r m x of_x app i =
        let s = some_is (held m) (rounds_back (length p.apps) held final m r (ap is_some of_x)) in
        let few = count_few (λ b. is_some (p.candidate s.0 b)) p.apps in
        let none = settle (length p.apps) held final ready r m s.0 x s.1 of_x few in
        is_none (p.candidate x app) (count_none (λ b. is_some (p.candidate x b)) p.apps none app i)
