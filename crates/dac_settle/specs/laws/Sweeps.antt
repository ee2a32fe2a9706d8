-- A tick in a round claims exactly the applications whose candidate its node is: each candidate's verdict is due, and
-- no term is used up.
use Rattle.std.proofs.Common.{◌≡◌, ℕ, ◌+◌, ◌≤◌, true, List, [], ◌∷◌, ◌++◌, Option, Some, refl, sym, ap, subst, ◌∙◌, arith, inl, inr, append_assoc, append-nil}
use Rattle.dac_settle.specs.laws.Common.{unwrap_or, true≢false, and_parts, and_from, NodeId, AppId, Origin, Dot, dot, Lives, IsLive, live_at, live_is, same_dot_itself, Operation, IsOperationOf, AreOperationsOf, DotsDetermine, names, meaning_of, In-append_left, In-append_cases, finds, known-meaning, join-meaning, Table, app_count, apps_of, verdict_of, candidate_of, Noted, Note, IsLost, IsLostByNewest, is_due_by, waits_of, kept_is, greatest_counter, Sweep, claim_of, is_mine, swept_by, own_if, if_own, IsApp, IsGrown, Member, own_of, IsLate, IsTick, placed, here}
use Rattle.std.specs.Prelude.{◌<◌}
use Rattle.std.specs.FinSet as set
use Rattle.std.proofs.lemmas.Bool.{or_left}
use Rattle.dac_chains.specs.declared.claims.Claim.{Claim}
use Rattle.dac_placement.specs.Placement.{IsUp}
use Rattle.dac_commands.specs.laws.Counters.{counter-greatest}
use Rattle.dac_ticks.specs.Ticks.{passing, claiming, sweep_over}
use Rattle.dac_ticks.specs.laws.Sweeping.{AreBelow, apps_below}
use Rattle.dac_ticks.specs.Again.{noting}
use Rattle.dac_settle.specs.Rounds.{Claims}
use Rattle.dac_settle.specs.Settling.{sweep_at}
use Rattle.dac_settle.specs.laws.AnyPlacement.{one, grown_by}
use Rattle.dac_settle.specs.laws.Placed.{IsTaken, grown_alike, alike_grown, claims_cases, taken_if, well}
use Rattle.dac_settle.specs.laws.Due.{candidate_due}

-- ---- dots

-- no operation has the next dot
fresh : (x : List Operation) (own : Origin) (p : Operation) → IsOperationOf p x → p.dot ≡ dot own (greatest_counter own (meaning_of x).known + 1) → ⊥
fresh x own p i e =
    let known : set.contains (meaning_of x).known p.dot ≡ true = known-meaning x p.dot ∙ finds (names p.dot) x p i (or_left _ _ (same_dot_itself p.dot)) in
    let of : p.dot.origin ≡ own = ap (λ (d : Dot). d.origin) e in
    past p.dot.n (greatest_counter own (meaning_of x).known) (subst (λ o. p.dot.n ≤ greatest_counter o (meaning_of x).known) of (counter-greatest (meaning_of x).known p.dot known)) (ap (λ (d : Dot). d.n) e)
  where
    past : (a b : ℕ) → a ≤ b → a ≡ b + 1 → ⊥
    past a b le at = omega arith

-- the dots of the operations and of the next claim are distinct
agree_more : (t : Table) (own : Origin) (x : List Operation) (app : AppId) → DotsDetermine x → DotsDetermine (x ++ claim_of t own (meaning_of x) app ∷ [])
agree_more t own x app agree p q i j same = elim (In-append_cases p x (o ∷ []) i) [
  | inl l ↦ elim (In-append_cases q x (o ∷ []) j) [
    | inl m ↦ agree p q l m same
    | inr m ↦ elim m [ inl new ↦ absurd (fresh x own p l (same ∙ ap (λ (r : Operation). r.dot) new)) | inr none ↦ absurd none ]
  ]
  | inr l ↦ elim l [
    | inl new ↦ elim (In-append_cases q x (o ∷ []) j) [
      | inl m ↦ absurd (fresh x own q m (sym same ∙ ap (λ (r : Operation). r.dot) new))
      | inr m ↦ elim m [ inl too ↦ new ∙ sym too | inr none ↦ absurd none ]
    ]
    | inr none ↦ absurd none
  ]
]
  where
    o : Operation
    o = claim_of t own (meaning_of x) app

-- ---- a lost claim was lost before

module _ (t : Table) (s : List Operation) where
  module _ (x y : List Operation) (g : IsGrown (placed t) s x) (h : IsGrown (placed t) s y) (w : AreOperationsOf x y) (app : AppId) (claim : Claim) (lost : IsLost (meaning_of y) app claim) where
    -- the claimant of a good claim is live, so that claim isn't lost
    not_taken : IsTaken t s y h app → ⊥
    not_taken taken =
        let same : taken.good.claim ≡ claim = one (sym taken.greatest ∙ lost.greatest) in
        let o = taken.good.claim.origin in
        let up : IsUp (meaning_of y) o = subst (λ (l : Lives). IsLive l o.node o.inc) (alike_grown t s y h).lives taken.good.fit.live in
        lost.down (subst (λ (c : Claim). IsUp (meaning_of y) c.origin) same up)

    pub lost_back : IsLost (meaning_of x) app claim
    lost_back = elim (claims_cases t s y h app) [
      | inr taken ↦ absurd (not_taken taken)
      | inl later ↦ elim (claims_cases t s x g app) [
        | inr taken ↦ absurd (not_taken (taken_if t s y h app taken.by (w taken.by taken.there) taken.good))
        | inl same ↦ record {
          greatest = same ∙ sym later ∙ lost.greatest;
          down = λ up. lost.down (subst (λ (l : Lives). IsLive l claim.origin.node claim.origin.inc) ((grown_alike t s x g).lives ∙ (alike_grown t s y h).lives) up);
        }
      ]
    ]

  -- ---- a running node in a round that began with s

  pub record IsMemberOf (n : NodeId) (d : Member) : Type 0 where
    pub grown : IsGrown (placed t) s d.held
    pub live : IsLive (meaning_of s).lives n d.inc
    pub noted : (app : AppId) (claim : Claim) → IsLost (meaning_of d.held) app claim → IsLostByNewest d.notes app claim

  module _ (n : NodeId) (d : Member) (now : ℕ) (m : IsMemberOf n d) (late : IsLate t d.notes now) where
    abbrev own : Origin
    own = own_of n d

    abbrev notes : List Note
    notes = noting (meaning_of d.held) now d.notes

    abbrev waits : List (Option Noted)
    waits = waits_of t notes

    -- a set at which the tick reaches an application
    pub record IsReached (x : List Operation) : Type 0 where
      pub grown : IsGrown (placed t) s x
      pub keeps : AreOperationsOf d.held x
      pub agree : DotsDetermine x

    -- the tick claims the application if and only if its node is the candidate
    mine_if : (x : List Operation) (app : AppId) → app.0 < app_count t → IsReached x → (placed t).candidate x app ≡ Some n → is_mine t own waits now (meaning_of x) app ≡ true
    mine_if x app lt r is =
        let u = meaning_of x in
        let back : (claim : Claim) → IsLost u app claim → IsLost (meaning_of d.held) app claim = λ claim lost. lost_back d.held x m.grown r.grown r.keeps app claim lost in
        and_from _ _ (if_own own (candidate_of (verdict_of t u app)) is)
        (ap (λ noted. is_due_by t noted u app now (verdict_of t u app)) (kept_is t notes app lt)
        ∙ candidate_due t u app (record { state = meaning_of d.held; moment = now }) d.notes now late (λ claim lost. m.noted app claim (back claim lost)) back n is)

    if_mine : (x : List Operation) (app : AppId) → is_mine t own waits now (meaning_of x) app ≡ true → (placed t).candidate x app ≡ Some n
    if_mine x app e = own_if own (candidate_of (verdict_of t (meaning_of x) app)) (and_parts _ _ e).0

    -- its origin is the node's live incarnation
    own_is : (x : List Operation) → IsReached x → own ≡ here n x
    own_is x r =
        let lives = (meaning_of x).lives in
        let live : live_at lives n ≡ Some d.inc = (live_is lives n d.inc).1 (subst (λ (l : Lives). IsLive l n d.inc) (alike_grown t s x r.grown).lives m.live) in
        λ i. record { node = n; inc = unwrap_or (sym live i) 0 }

    abbrev claim_at : List Operation → AppId → Operation
    claim_at x app = claim_of t own (meaning_of x) app

    same_claim : (x : List Operation) (app : AppId) → IsReached x → claim_at x app ≡ (placed t).claim n x app
    same_claim x app r = ap (λ o. claim_of t o (meaning_of x) app) (own_is x r)

    -- the set with the tick's claim is reached too
    reached_more : (x : List Operation) (app : AppId) → IsApp app (apps_of t) → IsReached x → (placed t).candidate x app ≡ Some n → IsReached (x ++ claim_at x app ∷ [])
    reached_more x app listed r is = record {
      grown = grown_by (placed t) s x (claim_at x app) r.grown (app, listed, subst (λ o. (placed t).IsWell s app o) (sym (same_claim x app r)) (well t s x r.grown app n is));
      keeps = λ o i. In-append_left o x (claim_at x app ∷ []) (r.keeps o i);
      agree = agree_more t own x app r.agree;
    }

    -- ---- the tick's claims

    abbrev over_apps : Sweep → List AppId → Sweep
    over_apps sweep apps = sweep_over t own waits now sweep apps

    not_empty : (xs : List AppId) (app : AppId) → xs ++ app ∷ [] ≡ [] → ⊥
    not_empty [] app e = cc
    not_empty (x ∷ xs) app e = cc

    -- an application passed stays passed
    still_passed : (apps : List AppId) (sweep : Sweep) → ¬ (sweep.passed ≡ []) → ¬ ((over_apps sweep apps).passed ≡ [])
    still_passed [] sweep some = some
    still_passed (app ∷ apps) sweep some =
        swept_by t own waits now (λ next. ¬ ((over_apps next apps).passed ≡ [])) sweep app
        (λ none. still_passed apps sweep some)
        (λ mine used. still_passed apps (passing sweep app) (not_empty sweep.passed app))
        (λ mine left. still_passed apps (claiming sweep (claim_of t own sweep.state app)) some)

    -- the state of a tick that has reached a set
    abbrev sweep_on : List Operation → List AppId → List Operation → Sweep
    sweep_on ops passed x = record { ops = ops; passed = passed; state = meaning_of x }

    -- from there the tick claims as the candidate
    abbrev ClaimsFrom : List AppId → List Operation → List Operation → Sweep → Type 0
    ClaimsFrom apps ops x later = (made : List Operation) × (later.ops ≡ ops ++ made) × Claims (placed t) n apps x made

    abbrev AreListed : List AppId → Type 0
    AreListed apps = (app : AppId) → IsApp app apps → IsApp app (apps_of t)

    claims_from : (apps : List AppId) (ops : List Operation) (passed : List AppId) (x : List Operation) → AreListed apps → AreBelow (app_count t) apps → IsReached x
        → (over_apps (sweep_on ops passed x) apps).passed ≡ [] → ClaimsFrom apps ops x (over_apps (sweep_on ops passed x) apps)
    claims_from [] ops passed x listed below r none = ([], sym (append-nil ops), refl)
    claims_from (app ∷ apps) ops passed x listed below r none =
        swept_by t own waits now (λ next. (over_apps next apps).passed ≡ [] → ClaimsFrom (app ∷ apps) ops x (over_apps next apps)) (sweep_on ops passed x) app
        (λ other none.
        let rest = claims_from apps ops passed x (λ b i. listed b (inr i)) below.1 r none in
        (rest.0, rest.1, inr (λ is. true≢false (sym (mine_if x app below.0 r is) ∙ other), rest.2)))
        (λ mine used none. absurd (still_passed apps (passing (sweep_on ops passed x) app) (not_empty passed app) none))
        (λ mine left none.
        let o = claim_at x app in
        let is = if_mine x app mine in
        let again = reached_more x app (listed app (inl refl)) r is in
        let joined : claiming (sweep_on ops passed x) o ≡ sweep_on (ops ++ o ∷ []) passed (x ++ o ∷ []) = λ i. record { ops = ops ++ o ∷ []; passed = passed; state = join-meaning x (o ∷ []) again.agree i } in
        let rest = claims_from apps (ops ++ o ∷ []) passed (x ++ o ∷ []) (λ b i. listed b (inr i)) below.1 again (subst (λ (sweep : Sweep). (over_apps sweep apps).passed ≡ []) joined none) in
        let same = same_claim x app r in (
          o ∷ rest.0,
          ap (λ (sweep : Sweep). (over_apps sweep apps).ops) joined ∙ rest.1 ∙ append_assoc ops (o ∷ []) rest.0,
          inl (rest.0, is, ap (λ q. q ∷ rest.0) same, subst (λ q. Claims (placed t) n apps (x ++ q ∷ []) rest.0) same rest.2),
        ))
        none

  -- the tick claims as the candidate
  pub tick_claims : (n : NodeId) (d : Member) (now : ℕ) → IsMemberOf n d → IsTick t n d now → Claims (placed t) n (apps_of t) d.held (sweep_at t n d now).ops
  tick_claims n d now m tick =
      let reached : IsReached n d now m tick.late d.held = record { grown = m.grown; keeps = λ o i. i; agree = tick.agree } in
      let all = claims_from n d now m tick.late (apps_of t) [] [] d.held (λ app i. i) (apps_below 0 (app_count t) (app_count t) (omega arith)) reached tick.passed in
      subst (Claims (placed t) n (apps_of t) d.held) (sym all.1) all.2
