-- A second tick at the same moment claims nothing, and passes over only applications that the first did.
use Rattle.std.proofs.Common.{◌≡◌, ◌⊎◌, ℕ, ◌+◌, ◌-◌, ◌<◌, ◌≤◌, Bool, true, false, not, cond, ◌&&◌, ◌||◌, List, [], ◌∷◌, ◌++◌, Option, None, Some, length, refl, sym, ap, ap₂, subst, ◌∙◌, arith, zero, suc, add-one, inl, inr, true≢false}
use Rattle.dac_ticks.specs.laws.Common.{option_map_or, false≢true, and_parts, and_from, eqb-true, eq-eqb, MAX_COUNTER, NodeId, AppId, Origin, Table, node_count, app_count, IsLive, Lives, Act, StateValue, IsState, join, meaning_of, Verdict, Failover, Halted, Move, Kept, Nobody, is_eligible, is_up, key_at, apps_of, holder_of, IsVerdict, verdict_of, candidate_of, eligible_is, verdict_in_words, Noted, waits_of, next_operation, terms_used_up, Sweep, sweep_from, claim_of, is_mine, sweep_over}
use Rattle.std.specs.Prelude.{◌==◌, nat_lt, is_some, MatchOption, filter, option_map}
use Rattle.std.specs.Option.{option_and_then}
use Rattle.std.specs.FinSet as set
use Rattle.std.specs.FinMap as map
use Rattle.dac_config.specs.Table.{timeout_of}
use Rattle.dac_chains.specs.declared.claims.Claim.{Claim}
use Rattle.dac_chains.specs.Claims.{Claims}
use Rattle.dac_chains.specs.laws.Live.{live_is}
use Rattle.dac_wishes.specs.PermissionsValue.{Permits}
use Rattle.dac_wishes.specs.DrainsValue.{Drains}
use Rattle.dac_wishes.specs.Writes.{Writes}
use Rattle.dac_placement.specs.declared.verdicts.Verdict.TheVariants.{Start, Takeover}
use Rattle.dac_placement.specs.Placement.{EachEligible, IsEligible, IsEarlier, IsUp, IsAllowedAt, IsStartedAt, runs_at, load_of, IsFirst, first_choice, key_of, standing_of, verdict_by}
use Rattle.dac_placement.specs.laws.Tests.{runs_is}
use Rattle.dac_placement.specs.laws.Loads.{preferred_is}
use Rattle.dac_placement.specs.laws.FirstChoice.{first_is}
use Rattle.dac_placement.specs.laws.FirstNode.{first_to, level}
use Rattle.dac_decide.specs.FailoverWait.{Note, is_same, lost_if, lost_in, since_of, noted_next, noted_at, noted_of, is_over_at, is_due_by}
use Rattle.dac_decide.specs.laws.Lost.{same_to, same_itself}
use Rattle.dac_decide.specs.laws.Kept.{kept_is}
use Rattle.dac_ticks.specs.Again.{IsAmong, noting, SecondTickClaimsNothing}
use Rattle.dac_ticks.specs.laws.Sweeping.{numbered, apps_from, swept_by, sweep_more}
use Rattle.dac_ticks.specs.laws.Words.{is_own, own_if}
use Rattle.dac_ticks.specs.laws.Claimed.{MayRunAlike, alike_itself, alike_through, alike_back, claim_alike, claim_state, other_claim, own_claim, claimed_as}

-- ---- lists

among_left : (app : AppId) (xs ys : List AppId) → IsAmong app xs → IsAmong app (xs ++ ys)
among_left app [] ys h = absurd h
among_left app (x ∷ xs) ys h = elim h [ inl same ↦ inl same | inr rest ↦ inr (among_left app xs ys rest) ]

among_last : (app : AppId) (xs : List AppId) → IsAmong app (xs ++ app ∷ [])
among_last app [] = inl refl
among_last app (x ∷ xs) = inr (among_last app xs)

among_cases : (app : AppId) (xs ys : List AppId) → IsAmong app (xs ++ ys) → IsAmong app xs ⊎ IsAmong app ys
among_cases app [] ys h = inr h
among_cases app (x ∷ xs) ys h = elim h [
  | inl same ↦ inl (inl same)
  | inr rest ↦ elim (among_cases app xs ys rest) [ inl a ↦ inl (inr a) | inr b ↦ inr b ]
]

fewer : (p q : AppId → Bool) → ((a : AppId) → p a ≡ true → q a ≡ true) → (xs : List AppId) → length (filter p xs) ≤ length (filter q xs)
fewer p q within [] = omega arith
fewer p q within (x ∷ xs) = by_tests (p x) (q x) (within x) (filter p xs) (filter q xs) (fewer p q within xs)
  where
    by_tests : (a b : Bool) → (a ≡ true → b ≡ true) → (ys zs : List AppId) → length ys ≤ length zs → length (cond a (x ∷ ys) ys) ≤ length (cond b (x ∷ zs) zs)
    by_tests true true h ys zs le = omega arith
    by_tests true false h ys zs le = absurd (false≢true (h refl))
    by_tests false true h ys zs le = omega arith
    by_tests false false h ys zs le = le

-- ---- states that differ only in claims

-- a state with these parts
abbrev places : Lives → Permits → Writes → Drains → Claims → StateValue
places lives permits starts drains claims = record { heard = set.empty; known = set.empty; permits = permits; starts = starts; lives = lives; claims = claims; drains = drains }

module _ (t : Table) (s u : StateValue) (a : MayRunAlike s u) (app : AppId) where
  eligible_alike : (n : NodeId) → is_eligible t s app n ≡ is_eligible t u app n
  eligible_alike n = λ i. is_eligible t (places (a.lives i) (a.permits i) (a.starts i) (a.drains i) map.empty) app n

  to_eligible : (n : NodeId) → IsEligible t s app n → IsEligible t u app n
  to_eligible n e = (eligible_is t u app n).0 (sym (eligible_alike n) ∙ (eligible_is t s app n).1 e)

  module _ (same : map.get s.claims app ≡ map.get u.claims app) where
    holder_alike : holder_of s app ≡ holder_of u app
    holder_alike = ap (option_map (λ (claim : Claim). claim.origin)) same

    standing_alike : standing_of t s app ≡ standing_of t u app
    standing_alike = (λ i. standing_of t (places (a.lives i) (a.permits i) (a.starts i) (a.drains i) s.claims) app) ∙ rw same refl

    runs_alike : (n : NodeId) → runs_at t s app n ≡ runs_at t u app n
    runs_alike n = λ i.
        option_map_or (λ (o : Origin). (o.node.0 == n.0) && is_up (places (a.lives i) (a.permits i) (a.starts i) (a.drains i) map.empty) o) (holder_alike i) false
        && is_eligible t (places (a.lives i) (a.permits i) (a.starts i) (a.drains i) map.empty) app n

    lost_alike : lost_in s app ≡ lost_in u app
    lost_alike = λ i. option_and_then (lost_if (places (a.lives i) (a.permits i) (a.starts i) (a.drains i) map.empty)) (same i)

    due_alike : (noted : Option Noted) (now : ℕ) (verdict : Verdict) → is_due_by t noted s app now verdict ≡ is_due_by t noted u app now verdict
    due_alike noted now (Start n) = refl
    due_alike noted now (Failover n) = λ i. option_map_or (λ (claim : Claim). claim.origin.node.0 == n.0) (same i) false || is_over_at (timeout_of t app) now (lost_alike i) noted
    due_alike noted now (Halted n) = refl
    due_alike noted now (Move n) = refl
    due_alike noted now (Takeover n) = refl
    due_alike noted now (Kept n) = refl
    due_alike noted now Nobody = refl

-- ---- the holder of an application that it claimed

module _ (t : Table) (own : Origin) where
  -- the incarnation holds the application, its node is eligible, and no eligible node is in an earlier group
  pub record Takes (s : StateValue) (app : AppId) : Type 0 where
    pub holder : holder_of s app ≡ Some own
    pub eligible : IsEligible t s app own.node
    pub earliest : EachEligible t s app (λ m. ¬ IsEarlier t app m own.node)

  pub takes_alike : (s u : StateValue) → MayRunAlike s u → (app : AppId) → map.get s.claims app ≡ map.get u.claims app → Takes s app → Takes u app
  takes_alike s u a app same takes = record {
    holder = sym (holder_alike t s u a app same) ∙ takes.holder;
    eligible = to_eligible t s u a app own.node takes.eligible;
    earliest = λ m lt may. takes.earliest m lt (to_eligible t u s (alike_back s u a) app m may);
  }

  module _ (s : StateValue) (up : IsUp s own) (app : AppId) (takes : Takes s app) where
    one_origin : {o p : Origin} → ◌≡◌ {A = Option Origin} (Some o) (Some p) → o ≡ p
    one_origin e = cc

    one_inc : {a b : ℕ} → ◌≡◌ {A = Option ℕ} (Some a) (Some b) → a ≡ b
    one_inc e = cc

    inc_is : takes.eligible.inc ≡ own.inc
    inc_is = one_inc (sym ((live_is s.lives own.node takes.eligible.inc).1 takes.eligible.live) ∙ (live_is s.lives own.node own.inc).1 up)

    allowed : IsAllowedAt t s (key_at app own.node own.inc)
    allowed = subst (λ inc. IsAllowedAt t s (key_at app own.node inc)) inc_is takes.eligible.allowed

    holder_is : (o : Origin) → holder_of s app ≡ Some o → own ≡ o
    holder_is o is = one_origin (sym takes.holder ∙ is)

    -- the application stays there
    kept_by : (verdict : Verdict) → IsVerdict t s app verdict → candidate_of verdict ≡ None
    kept_by (Start n) is = absurd (false≢true (ap is_some (sym is.0 ∙ takes.holder)))
    kept_by (Failover n) is = absurd (is.0.2 (subst (IsUp s) (holder_is is.0.0 is.0.1) up))
    kept_by (Halted n) is = refl
    kept_by (Move n) is = absurd (is.0.2.2 (subst (λ (o : Origin). IsAllowedAt t s (key_of app o)) (holder_is is.0.0 is.0.1) allowed))
    kept_by (Takeover n) is = absurd (takes.earliest n is.2.node is.2.eligible (subst (λ m. IsEarlier t app n m) (sym (ap (λ (o : Origin). o.node) (holder_is is.1.0 is.1.1) ∙ is.1.2.0)) is.3))
    kept_by (Kept n) is = refl
    kept_by Nobody is = refl

    pub takes_kept : candidate_of (verdict_of t s app) ≡ None
    takes_kept = kept_by (verdict_of t s app) (verdict_in_words t s app)

    -- the application runs there
    pub takes_runs : runs_at t s app own.node ≡ true
    takes_runs = (runs_is t s app own.node).1 (record { inc = own.inc; holder = takes.holder; up = up; eligible = takes.eligible })

    -- the application runs nowhere else
    takes_alone : (n : NodeId) → runs_at t s app n ≡ true → own.node.0 ≡ n.0
    takes_alone n e =
        let held = (and_parts _ _ e).0 in
        eqb-true own.node.0 n.0 (and_parts (own.node.0 == n.0) (is_up s own) (sym (ap (λ h. option_map_or (λ (o : Origin). (o.node.0 == n.0) && is_up s o) h false) takes.holder) ∙ held)).0

  -- a candidate is the first choice
  no_candidate : {X : Type 0} → ◌≡◌ {A = Option NodeId} None (Some own.node) → X
  no_candidate e = absurd (false≢true (ap is_some e))

  one_node : {m n : NodeId} → ◌≡◌ {A = Option NodeId} (Some m) (Some n) → m ≡ n
  one_node e = cc

  pub first_of : (s : StateValue) (app : AppId) (verdict : Verdict) → IsVerdict t s app verdict → candidate_of verdict ≡ Some own.node → IsFirst t s app own.node
  first_of s app (Start n) is e = subst (IsFirst t s app) (one_node e) is.1
  first_of s app (Failover n) is e = subst (IsFirst t s app) (one_node e) is.1
  first_of s app (Halted n) is e = no_candidate e
  first_of s app (Move n) is e = subst (IsFirst t s app) (one_node e) is.1
  first_of s app (Takeover n) is e = subst (IsFirst t s app) (one_node e) is.2
  first_of s app (Kept n) is e = no_candidate e
  first_of s app Nobody is e = no_candidate e

  -- ---- a state, and the state after some of the incarnation's claims

  -- u is s with claims of the incarnation, which it holds, of applications with numbers from lo below hi
  pub record Later (lo hi : ℕ) (s u : StateValue) : Type 0 where
    pub alike : MayRunAlike s u
    pub claims : (b : AppId) → (map.get s.claims b ≡ map.get u.claims b) ⊎ ((lo ≤ b.0) × ((b.0 < hi) × Takes u b))

  later_itself : (lo : ℕ) (s : StateValue) → Later lo lo s s
  later_itself lo s = record { alike = alike_itself s; claims = λ b. inl refl }

  later_wider : (lo hi : ℕ) (s u : StateValue) → Later lo hi s u → Later lo (hi + 1) s u
  later_wider lo hi s u l = record { alike = l.alike; claims = λ b. elim (l.claims b) [ inl same ↦ inl same | inr taken ↦ inr (taken.0, (wider b.0 hi taken.1.0, taken.1.1)) ] }
    where
      wider : (a n : ℕ) → a < n → a < n + 1
      wider a n h = omega arith

  -- the state after a claim of the incarnation
  abbrev pub after : StateValue → AppId → StateValue
  after u app = join u (meaning_of (claim_of t own u app ∷ []))

  module _ (u : StateValue) (is : IsState u) (app : AppId) where
    abbrev after_act : Act → StateValue
    after_act act = join u (meaning_of (next_operation u own act ∷ []))

    pub after_alike : MayRunAlike u (after u app)
    after_alike = let by = claimed_as u app (verdict_of t u app) in subst (λ act. MayRunAlike u (after_act act)) (sym by.2) (claim_alike own u app by.0 by.1 is)

    pub after_state : IsState (after u app)
    after_state = let by = claimed_as u app (verdict_of t u app) in subst (λ act. IsState (after_act act)) (sym by.2) (claim_state own u app by.0 by.1 is)

    pub after_other : (b : AppId) → (b.0 ≡ app.0 → ⊥) → map.get u.claims b ≡ map.get (after u app).claims b
    after_other b ne = let by = claimed_as u app (verdict_of t u app) in subst (λ act. map.get u.claims b ≡ map.get (after_act act).claims b) (sym by.2) (sym (other_claim own u app by.0 by.1 b ne))

    after_holder : holder_of (after u app) app ≡ Some own
    after_holder = let by = claimed_as u app (verdict_of t u app) in subst (λ act. holder_of (after_act act) app ≡ Some own) (sym by.2) (ap (option_map (λ (claim : Claim). claim.origin)) (own_claim own u app by.0 by.1))

    -- the verdict's candidate holds the application after its claim
    pub after_takes : candidate_of (verdict_of t u app) ≡ Some own.node → Takes (after u app) app
    after_takes e =
        let first = first_of u app (verdict_of t u app) (verdict_in_words t u app) e in
        record {
          holder = after_holder;
          eligible = to_eligible t u (after u app) after_alike app own.node first.eligible;
          earliest = λ m lt may. first.earliest m lt (to_eligible t (after u app) u (alike_back u (after u app) after_alike) app m may);
        }

    later_claims : (lo : ℕ) (s : StateValue) → lo ≤ app.0 → Later lo app.0 s u → candidate_of (verdict_of t u app) ≡ Some own.node → Later lo (app.0 + 1) s (after u app)
    later_claims lo s le l e = record {
      alike = alike_through s u (after u app) l.alike after_alike;
      claims = λ b. elim (b.0 == app.0) as (λ same. (b.0 == app.0) ≡ same → (map.get s.claims b ≡ map.get (after u app).claims b) ⊎ ((lo ≤ b.0) × ((b.0 < app.0 + 1) × Takes (after u app) b))) [
        | true ↦ λ same. inr (subst (λ (c : AppId). (lo ≤ c.0) × ((c.0 < app.0 + 1) × Takes (after u app) c)) (one_app b (eqb-true b.0 app.0 same)) (le, (next app.0, after_takes e)))
        | false ↦ λ other.
            let kept = after_other b (λ same. true≢false (sym (eq-eqb b.0 app.0 same) ∙ other)) in
            elim (l.claims b) [
              | inl same ↦ inl (same ∙ kept)
              | inr taken ↦ inr (taken.0, (wider b.0 app.0 taken.1.0, takes_alike u (after u app) after_alike b kept taken.1.1))
            ]
      ] refl;
    }
      where
        one_app : (b : AppId) → b.0 ≡ app.0 → app ≡ b
        one_app b same = λ i. record { 0 = sym same i }

        next : (n : ℕ) → n < n + 1
        next n = omega arith

        wider : (a n : ℕ) → a < n → a < n + 1
        wider a n h = omega arith

  -- ---- loads

  module _ (lo hi : ℕ) (s u : StateValue) (l : Later lo hi s u) (up : IsUp u own) (app : AppId) where
    -- another node's load doesn't rise
    load_other : (m : NodeId) → (own.node.0 ≡ m.0 → ⊥) → load_of t u app m ≤ load_of t s app m
    load_other m ne = fewer (λ other. not (other.0 == app.0) && runs_at t u other m) (λ other. not (other.0 == app.0) && runs_at t s other m)
        (λ other h. let both = and_parts _ _ h in and_from _ _ both.0 (ran other both.1)) (apps_of t)
      where
        ran : (other : AppId) → runs_at t u other m ≡ true → runs_at t s other m ≡ true
        ran other e = elim (l.claims other) [
          | inl same ↦ runs_alike t s u l.alike other same m ∙ e
          | inr taken ↦ absurd (ne (takes_alone u up other taken.1.1 m e))
        ]

    -- this node's load doesn't fall
    load_own : load_of t s app own.node ≤ load_of t u app own.node
    load_own = fewer (λ other. not (other.0 == app.0) && runs_at t s other own.node) (λ other. not (other.0 == app.0) && runs_at t u other own.node)
        (λ other h. let both = and_parts _ _ h in and_from _ _ both.0 (runs other both.1)) (apps_of t)
      where
        runs : (other : AppId) → runs_at t s other own.node ≡ true → runs_at t u other own.node ≡ true
        runs other e = elim (l.claims other) [
          | inl same ↦ sym (runs_alike t s u l.alike other same own.node) ∙ e
          | inr taken ↦ takes_runs u up other taken.1.1
        ]

    -- so if this node is the first choice later, it was before
    was_first : IsFirst t u app own.node → first_choice t s app ≡ Some own.node
    was_first first = by_first (first_choice t s app) (first_is t s app)
      where
        back : (m : NodeId) → IsEligible t u app m → IsEligible t s app m
        back m may = to_eligible t u s (alike_back s u l.alike) app m may

        preferred : (f : NodeId) (a b x y : ℕ) → (a < b) ⊎ ((a ≡ b) × (f.0 ≤ own.node.0)) → (y < x) ⊎ ((y ≡ x) × (own.node.0 ≤ f.0)) → b ≤ y → x ≤ a → (own.node.0 ≡ f.0 → ⊥) → ⊥
        preferred f a b x y (inl p) (inl q) h k ne = omega arith
        preferred f a b x y (inl p) (inr q) h k ne = omega (arith, q.0)
        preferred f a b x y (inr p) (inl q) h k ne = omega (arith, p.0)
        preferred f a b x y (inr p) (inr q) h k ne = let le = p.1 in let ge = q.1 in ne (omega arith)

        same_first : (f : NodeId) → IsFirst t s app f → f ≡ own.node
        same_first f before = elim (own.node.0 == f.0) as (λ same. (own.node.0 == f.0) ≡ same → f ≡ own.node) [
          | true ↦ λ same. one_number (eqb-true own.node.0 f.0 same)
          | false ↦ λ other.
              let ne : own.node.0 ≡ f.0 → ⊥ = λ same. true≢false (sym (eq-eqb own.node.0 f.0 same) ∙ other) in
              let may = back own.node first.eligible in
              let still = to_eligible t s u l.alike app f before.eligible in
              let same = level t app f own.node before.eligible.listed first.eligible.listed (first.earliest f before.node still) (before.earliest own.node first.node may) in
              absurd (preferred f (load_of t s app f) (load_of t s app own.node) (load_of t u app f) (load_of t u app own.node)
              ((preferred_is t s app f own.node).0 (before.preferred own.node first.node may (sym same))) ((preferred_is t u app own.node f).0 (first.preferred f before.node still same)) load_own (load_other f ne) ne)
        ] refl
          where
            one_number : own.node.0 ≡ f.0 → f ≡ own.node
            one_number e = λ i. record { 0 = sym e i }

        by_first : (o : Option NodeId) → MatchOption o (EachEligible t s app (λ _. ⊥)) (λ m. IsFirst t s app m) → o ≡ Some own.node
        by_first None none = absurd (none own.node first.node (back own.node first.eligible))
        by_first (Some f) before = ap (λ n. Some n) (same_first f before)

-- ---- notes

module _ (now : ℕ) where
  since_same : (before : Option Noted) (claim : Claim) → (since_of before now claim).claim ≡ claim
  since_same None claim = refl
  since_same (Some b) claim = elim (is_same b.claim claim) as (λ e. is_same b.claim claim ≡ e → (cond e b (record { claim = claim; since = now })).claim ≡ claim) [
    | true ↦ λ e. same_to b.claim claim e
    | false ↦ λ e. refl
  ] refl

  -- a second note changes nothing
  noted_again : (before : Option Noted) (lost : Option Claim) → noted_next (noted_next before lost now) lost now ≡ noted_next before lost now
  noted_again before None = refl
  noted_again before (Some claim) =
      let n = since_of before now claim in
      ap (λ e. Some (cond e n (record { claim = claim; since = now }))) (ap (λ c. is_same c claim) (since_same before claim) ∙ same_itself claim)

-- ---- the first tick

module _ (t : Table) (own : Origin) (notes : List Note) (now : ℕ) (s : StateValue) (is : IsState s) (live : IsLive s.lives own.node own.inc) where
  abbrev waits : List (Option Noted)
  waits = waits_of t (noting s now notes)

  -- the sweep of the first n applications
  abbrev first_n : ℕ → Sweep
  first_n n = sweep_over t own waits now (sweep_from s) (apps_from 0 n)

  kept_state : (n : ℕ) → IsState (first_n n).state
  kept_state zero = is
  kept_state (suc n) = subst (λ m. IsState (first_n m).state) (add-one n)
      (subst (λ (sweep : Sweep). IsState sweep.state) (sym (sweep_more t own waits now (sweep_from s) n))
      (swept_by t own waits now (λ sweep. IsState sweep.state) (first_n n) (numbered n) (λ none. kept_state n) (λ mine used. kept_state n)
      (λ mine left. after_state t own (first_n n).state (kept_state n) (numbered n))))

  to_candidate : (w : List (Option Noted)) (u : StateValue) (app : AppId) → is_mine t own w now u app ≡ true → candidate_of (verdict_of t u app) ≡ Some own.node
  to_candidate w u app e = own_if own (candidate_of (verdict_of t u app)) (and_parts _ _ e).0

  abbrev IsLater : ℕ → ℕ → Type 0
  IsLater lo n = Later t own lo n (first_n lo).state (first_n n).state

  later_more : (lo n : ℕ) → lo ≤ n → IsLater lo n → IsLater lo (n + 1)
  later_more lo n le l =
      subst (λ (sweep : Sweep). Later t own lo (n + 1) (first_n lo).state sweep.state) (sym (sweep_more t own waits now (sweep_from s) n))
      (swept_by t own waits now (λ sweep. Later t own lo (n + 1) (first_n lo).state sweep.state) (first_n n) (numbered n)
      (λ none. later_wider t own lo n (first_n lo).state (first_n n).state l) (λ mine used. later_wider t own lo n (first_n lo).state (first_n n).state l)
      (λ mine left. later_claims t own (first_n n).state (kept_state n) (numbered n) lo (first_n lo).state le l (to_candidate waits (first_n n).state (numbered n) mine)))

  later_by : (lo k n : ℕ) → lo + k ≡ n → IsLater lo n
  later_by lo zero n e = let same : lo ≡ n = omega arith in subst (IsLater lo) same (later_itself t own lo (first_n lo).state)
  later_by lo (suc k) n e =
      let more : lo + k + 1 ≡ n = omega arith in
      let le : lo ≤ lo + k = omega arith in
      subst (IsLater lo) more (later_more lo (lo + k) le (later_by lo k (lo + k) refl))

  later : (lo n : ℕ) → lo ≤ n → IsLater lo n
  later lo n le = later_by lo (n - lo) n (omega arith)

  up_at : (n : ℕ) → IsUp (first_n n).state own
  up_at n = subst (λ (lives : Lives). IsLive lives own.node own.inc) (later 0 n (omega arith)).alike.lives live

  -- applications passed over stay passed over
  passed_more : (app : AppId) (n : ℕ) → IsAmong app (first_n n).passed → IsAmong app (first_n (n + 1)).passed
  passed_more app n h =
      subst (λ (sweep : Sweep). IsAmong app sweep.passed) (sym (sweep_more t own waits now (sweep_from s) n))
      (swept_by t own waits now (λ sweep. IsAmong app sweep.passed) (first_n n) (numbered n) (λ none. h) (λ mine used. among_left app (first_n n).passed (numbered n ∷ []) h) (λ mine left. h))

  passed_by : (app : AppId) (lo k n : ℕ) → lo + k ≡ n → IsAmong app (first_n lo).passed → IsAmong app (first_n n).passed
  passed_by app lo zero n e h = let same : lo ≡ n = omega arith in subst (λ m. IsAmong app (first_n m).passed) same h
  passed_by app lo (suc k) n e h =
      let more : lo + k + 1 ≡ n = omega arith in
      subst (λ m. IsAmong app (first_n m).passed) more (passed_more app (lo + k) (passed_by app lo k (lo + k) refl h))

  -- ---- the second tick

  abbrev N : ℕ
  N = app_count t

  abbrev end : StateValue
  end = (first_n N).state

  abbrev waits_then : List (Option Noted)
  waits_then = waits_of t (noting end now (noting s now notes))

  -- no later application's claim changes this one's
  same_after : (i : ℕ) → i < N → map.get (first_n (i + 1)).state.claims (numbered i) ≡ map.get end.claims (numbered i)
  same_after i lt = elim ((later (i + 1) N (omega arith)).claims (numbered i)) [ inl same ↦ same | inr taken ↦ absurd (past i taken.0) ]
    where
      past : (i : ℕ) → i + 1 ≤ i → ⊥
      past i h = omega arith

  -- no earlier application's claim changed this one's
  same_before : (i : ℕ) → map.get s.claims (numbered i) ≡ map.get (first_n i).state.claims (numbered i)
  same_before i = elim ((later 0 i (omega arith)).claims (numbered i)) [ inl same ↦ same | inr taken ↦ absurd (past i taken.1.0) ]
    where
      past : (i : ℕ) → i < i → ⊥
      past i h = omega arith

  -- an application that the first tick left alone has the same timer at the second
  same_noted : (i : ℕ) → i < N → map.get s.claims (numbered i) ≡ map.get end.claims (numbered i) → noted_at waits (numbered i) ≡ noted_at waits_then (numbered i)
  same_noted i lt same =
      let app = numbered i in
      kept_is t (noting s now notes) app lt
      ∙ sym (noted_again now (noted_of app notes) (lost_in s app))
      ∙ ap (λ lost. noted_next (noted_next (noted_of app notes) (lost_in s app) now) lost now) (lost_alike t s end (later 0 N (omega arith)).alike app same)
      ∙ sym (kept_is t (noting end now (noting s now notes)) app lt)

  -- an application that wasn't the incarnation's to claim isn't at the second tick
  was_mine : (i : ℕ) → i < N → first_n i ≡ first_n (i + 1) → is_mine t own waits_then now end (numbered i) ≡ true → is_mine t own waits now (first_n i).state (numbered i) ≡ true
  was_mine i lt left mine =
      let app = numbered i in
      let u = (first_n i).state in
      let both = and_parts (is_own own (candidate_of (verdict_of t end app))) (is_due_by t (noted_at waits_then app) end app now (verdict_of t end app)) mine in
      let same : map.get u.claims app ≡ map.get end.claims app = ap (λ (sweep : Sweep). map.get sweep.state.claims app) left ∙ same_after i lt in
      let l = later i N (omega arith) in
      let first = first_of t own end app (verdict_of t end app) (verdict_in_words t end app) (own_if own (candidate_of (verdict_of t end app)) both.0) in
      let judged : verdict_of t u app ≡ verdict_of t end app =
      ap₂ (verdict_by t app) (standing_alike t u end l.alike app same) (was_first t own i N u end l (up_at N) app first ∙ sym (first_to t app end own.node first)) in
      and_from _ _ (ap (λ v. is_own own (candidate_of v)) judged ∙ both.0)
      (ap (is_due_by t (noted_at waits app) u app now) judged
      ∙ due_alike t u end l.alike app same (noted_at waits app) now (verdict_of t end app)
      ∙ ap (λ noted. is_due_by t noted end app now (verdict_of t end app)) (same_noted i lt (same_before i ∙ same))
      ∙ both.1)

  -- an application that is the incarnation's to claim at the second tick was passed over at the first
  abbrev WasPassed : ℕ → Type 0
  WasPassed i = (terms_used_up end (numbered i) ≡ true) × IsAmong (numbered i) (first_n N).passed

  was_passed : (i : ℕ) → i < N → is_mine t own waits_then now end (numbered i) ≡ true → WasPassed i
  was_passed i lt mine =
      let app = numbered i in
      let u = (first_n i).state in
      swept_by t own waits now (λ sweep. sweep ≡ first_n (i + 1) → WasPassed i) (first_n i) app
      (λ none left. absurd (true≢false (sym (was_mine i lt left mine) ∙ none)))
      (λ yes used passes. (
        sym (used_alike_by app u end (ap (λ (sweep : Sweep). map.get sweep.state.claims app) passes ∙ same_after i lt)) ∙ used,
        passed_by app (i + 1) (N - (i + 1)) N (omega arith) (subst (λ (sweep : Sweep). IsAmong app sweep.passed) passes (among_last app (first_n i).passed)),
      ))
      (λ yes left claims.
      let l = later (i + 1) N (omega arith) in
      let takes : Takes t own (first_n (i + 1)).state app = subst (λ (sweep : Sweep). Takes t own sweep.state app) claims (after_takes t own u (kept_state i) app (to_candidate waits u app yes)) in
      let kept = takes_alike t own (first_n (i + 1)).state end l.alike app (same_after i lt) takes in
      absurd (false≢true (ap is_some (sym (takes_kept t own end (up_at N) app kept) ∙ to_candidate waits_then end app mine))))
      (sym (sweep_more t own waits now (sweep_from s) i))
    where
      used_alike_by : (app : AppId) (u v : StateValue) → map.get u.claims app ≡ map.get v.claims app → terms_used_up u app ≡ terms_used_up v app
      used_alike_by app u v same = ap (λ c. nat_lt MAX_COUNTER (option_map_or (λ (claim : Claim). claim.term) c 0 + 1)) same

  abbrev second_n : ℕ → Sweep
  second_n n = sweep_over t own waits_then now (sweep_from end) (apps_from 0 n)

  pub record IsIdle (sweep : Sweep) : Type 0 where
    pub ops : sweep.ops ≡ []
    pub state : sweep.state ≡ end
    pub passed : (app : AppId) → IsAmong app sweep.passed → IsAmong app (first_n N).passed

  idle : (n : ℕ) → n ≤ N → IsIdle (second_n n)
  idle zero le = record { ops = refl; state = refl; passed = λ app h. absurd h }
  idle (suc n) le =
      let before = idle n (omega arith) in
      let lt : n < N = omega arith in
      subst (λ m. IsIdle (second_n m)) (add-one n)
      (subst IsIdle (sym (sweep_more t own waits_then now (sweep_from end) n))
      (swept_by t own waits_then now IsIdle (second_n n) (numbered n)
      (λ none. before)
      (λ mine used.
      let passed = was_passed n lt (subst (λ u. is_mine t own waits_then now u (numbered n) ≡ true) before.state mine) in
      record {
        ops = before.ops;
        state = before.state;
        passed = λ app h. elim (among_cases app (second_n n).passed (numbered n ∷ []) h) [
          | inl old ↦ before.passed app old
          | inr new ↦ elim new [ inl same ↦ subst (λ a. IsAmong a (first_n N).passed) same passed.1 | inr none ↦ absurd none ]
        ];
      })
      (λ mine left.
      let passed = was_passed n lt (subst (λ u. is_mine t own waits_then now u (numbered n) ≡ true) before.state mine) in
      absurd (true≢false (sym passed.0 ∙ ap (λ u. terms_used_up u (numbered n)) (sym before.state) ∙ left)))))

pub second_tick : SecondTickClaimsNothing
second_tick t own notes now s is live =
    let all = idle t own notes now s is live (app_count t) (omega arith) in
    (all.ops, (all.state, all.passed))

-- ---- claimed applications are kept

module _ (t : Table) (own : Origin) (s : StateValue) (up : IsUp s own) (app : AppId) (takes : Takes t own s app) (there : own.node.0 < node_count t) where
  started : IsStartedAt s (key_at app own.node own.inc)
  started = subst (λ inc. IsStartedAt s (key_at app own.node inc)) (inc_is t own s up app takes) takes.eligible.started

  node_is : (o : Origin) (n : NodeId) → own ≡ o → o.node ≡ n → n ≡ own.node
  node_is o n e is = sym is ∙ ap (λ (p : Origin). p.node) (sym e)

  pub kept_here : (verdict : Verdict) → IsVerdict t s app verdict → verdict ≡ Kept own.node
  kept_here (Start n) is = absurd (false≢true (ap is_some (sym is.0 ∙ takes.holder)))
  kept_here (Failover n) is = absurd (is.0.2 (subst (IsUp s) (holder_is t own s up app takes is.0.0 is.0.1) up))
  kept_here (Halted n) is = absurd (is.2.2 (subst (λ (o : Origin). IsStartedAt s (key_of app o)) (holder_is t own s up app takes is.0 is.1) started))
  kept_here (Move n) is = absurd (is.0.2.2 (subst (λ (o : Origin). IsAllowedAt t s (key_of app o)) (holder_is t own s up app takes is.0.0 is.0.1) (allowed t own s up app takes)))
  kept_here (Takeover n) is = absurd (takes.earliest n is.2.node is.2.eligible (subst (λ m. IsEarlier t app n m) (sym (ap (λ (o : Origin). o.node) (holder_is t own s up app takes is.1.0 is.1.1) ∙ is.1.2.0)) is.3))
  kept_here (Kept n) is = ap (λ m. Kept m) (node_is is.0.0 n (holder_is t own s up app takes is.0.0 is.0.1) is.0.2.0)
  kept_here Nobody is = absurd (is.0 own.node there takes.eligible)
