-- An application claimed in a sweep stays with its claimer to the end of the sweep, because later claims are for other
-- applications and leave everything unchanged on which its verdict depends.
use Rattle.std.proofs.Common.{◌≡◌, ℕ, ◌+◌, ◌<◌, ◌≤◌, true, false, List, [], ◌∷◌, Option, Some, refl, sym, ap, subst, ◌∙◌, arith, inl, inr}
use Rattle.dac_ticks.specs.laws.Common.{option_map_or, and_parts, false≢true, eqb-true, eq-eqb, NodeId, AppId, Origin, Table, node_count, How, IsLive, Lives, Operation, StateValue, IsState, join, meaning_of, IsVerdict, candidate_of, verdict_of, verdict_in_words, Noted, next_operation, Sweep, sweep_from, claiming, claim_of, swept, sweep_over}
use Rattle.std.specs.Prelude.{◌==◌}
use Rattle.std.specs.Option.{is_some}
use Rattle.std.specs.FinMap as map
use Rattle.std.proofs.lemmas.Bool.{true≢false}
use Rattle.dac_chains.specs.declared.claims.Claim.{Claim as ClaimValue}
use Rattle.dac_operations.specs.declared.act.Act.TheVariants.{Claim}
use Rattle.dac_meaning.specs.Meaning.{IsOperationOf}
use Rattle.dac_meaning.specs.laws.Members.{In-append_cases}
use Rattle.dac_placement.specs.Placement.{IsUp}
use Rattle.dac_placement.specs.laws.Tests.{runs_is}
use Rattle.dac_commands.specs.Commands.{next_term}
use Rattle.dac_ticks.specs.Staying.{ClaimsApp, ClaimsAreLater, ClaimsStay}
use Rattle.dac_ticks.specs.laws.Sweeping.{swept_by}
use Rattle.dac_ticks.specs.laws.Words.{own_if}
use Rattle.dac_ticks.specs.laws.Claimed.{MayRunAlike, alike_itself, alike_through, claimed_as, own_claim}
use Rattle.dac_ticks.specs.laws.Again.{Takes, takes_alike, takes_kept, takes_runs, first_of, after, after_alike, after_state, after_other, after_takes, kept_here}

-- a claim has one application and one term
one_app : {app other : AppId} {term k : ℕ} {how hows : How} {from froms : Option NodeId} → Claim app term how from ≡ Claim other k hows froms → other ≡ app
one_app e = cc

one_term : {app other : AppId} {term k : ℕ} {how hows : How} {from froms : Option NodeId} → Claim app term how from ≡ Claim other k hows froms → term ≡ k
one_term e = cc

-- the next term is above that of the application's claim
pub next_is_later : (s : StateValue) (app : AppId) (term : ℕ) (claim : ClaimValue) → term ≡ next_term s app → map.get s.claims app ≡ Some claim → claim.term < term
next_is_later s app term claim is there =
    let e : term ≡ claim.term + 1 = is ∙ ap (λ c. option_map_or (λ (x : ClaimValue). x.term) c 0 + 1) there in
    omega arith

-- the next term after a claim
after_next : (t : Table) (own : Origin) (u : StateValue) (app : AppId) → next_term (after t own u app) app ≡ next_term u app + 1
after_next t own u app =
    let by = claimed_as u app (verdict_of t u app) in
    subst (λ act. next_term (join u (meaning_of (next_operation u own act ∷ []))) app ≡ next_term u app + 1) (sym by.2)
    (ap (λ c. option_map_or (λ (x : ClaimValue). x.term) c 0 + 1) (own_claim own u app by.0 by.1))

app_is : (a b : AppId) → a.0 ≡ b.0 → a ≡ b
app_is a b e = λ i. record { 0 = e i }

module _ (t : Table) (own : Origin) (waits : List (Option Noted)) (now : ℕ) (s : StateValue) where
  -- The incarnation holds the application that it claimed.
  record IsHeld (u : StateValue) (app : AppId) : Type 0 where
    there : own.node.0 < node_count t
    takes : Takes t own u app

  -- The state after some applications differs from the first one only in claims, and these are under later terms. A
  -- live incarnation holds the applications that it claimed.
  record Holds (sweep : Sweep) : Type 0 where
    state : IsState sweep.state
    alike : MayRunAlike s sweep.state
    grown : (app : AppId) → next_term s app ≤ next_term sweep.state app
    later : (o : Operation) (app : AppId) → IsOperationOf o sweep.ops → (c : ClaimsApp app o) → next_term s app ≤ c.0
    held : IsUp s own → (o : Operation) (app : AppId) → IsOperationOf o sweep.ops → ClaimsApp app o → IsHeld sweep.state app

  more : (a b c : ℕ) → a ≤ b → c ≡ b + 1 → a ≤ c
  more a b c le e = omega arith

  as_much : (a b c : ℕ) → a ≤ b → c ≡ b → a ≤ c
  as_much a b c le e = omega arith

  -- an application is claimed
  module _ (app : AppId) (sweep : Sweep) (g : Holds sweep) (named : candidate_of (verdict_of t sweep.state app) ≡ Some own.node) where
    abbrev u : StateValue
    u = sweep.state

    abbrev left : StateValue
    left = after t own u app

    abbrev claim : Operation
    claim = claim_of t own u app

    left_alike : MayRunAlike u left
    left_alike = after_alike t own u g.state app

    -- an operation that claims an application, and is this claim, claims this application under its next term
    module _ (b : AppId) (o : Operation) (is : o ≡ claim) (c : ClaimsApp b o) where
      of_this : app ≡ b
      of_this = let by = claimed_as u app (verdict_of t u app) in one_app (sym c.3 ∙ ((λ i. (is i).act) ∙ by.2))

      under_next : c.0 ≡ next_term u app
      under_next = let by = claimed_as u app (verdict_of t u app) in one_term (sym c.3 ∙ ((λ i. (is i).act) ∙ by.2))

      is_later : next_term s b ≤ c.0
      is_later = subst (λ (a : AppId). next_term s a ≤ c.0) of_this (as_much (next_term s app) (next_term u app) c.0 (g.grown app) under_next)

    -- applications that the incarnation held before are others
    module _ (up : IsUp s own) where
      up_then : IsUp u own
      up_then = subst (λ (lives : Lives). IsLive lives own.node own.inc) g.alike.lives up

      another : (b : AppId) → Takes t own u b → b.0 ≡ app.0 → ⊥
      another b takes same =
          let here : Takes t own u app = subst (Takes t own u) (app_is b app same) takes in
          false≢true (ap is_some (sym (takes_kept t own u up_then app here) ∙ named))

      still : (b : AppId) → IsHeld u b → IsHeld left b
      still b h = record { there = h.there; takes = takes_alike t own u left left_alike b (after_other t own u g.state app b (another b h.takes)) h.takes }

      taken : IsHeld left app
      taken = record { there = (first_of t own u app (verdict_of t u app) (verdict_in_words t u app) named).node; takes = after_takes t own u g.state app named }

    grown_more : (b : AppId) → next_term s b ≤ next_term left b
    grown_more b = elim (b.0 == app.0) as (λ same. (b.0 == app.0) ≡ same → next_term s b ≤ next_term left b) [
      | true ↦ λ same. subst (λ (a : AppId). next_term s a ≤ next_term left a) (sym (app_is b app (eqb-true b.0 app.0 same))) (more (next_term s app) (next_term u app) (next_term left app) (g.grown app) (after_next t own u app))
      | false ↦ λ other.
          let as_before = after_other t own u g.state app b (λ same. true≢false (sym (eq-eqb b.0 app.0 same) ∙ other)) in
          as_much (next_term s b) (next_term u b) (next_term left b) (g.grown b) (sym (ap (λ c. option_map_or (λ (x : ClaimValue). x.term) c 0 + 1) as_before))
    ] refl

    holds_claimed : Holds (claiming sweep claim)
    holds_claimed = record {
      state = after_state t own u g.state app;
      alike = alike_through s u left g.alike left_alike;
      grown = grown_more;
      later = λ o b i c. elim (In-append_cases o sweep.ops (claim ∷ []) i) [
        | inl before ↦ g.later o b before c
        | inr new ↦ elim new [ inl is ↦ is_later b o is c | inr none ↦ absurd none ]
      ];
      held = λ up o b i c. elim (In-append_cases o sweep.ops (claim ∷ []) i) [
        | inl before ↦ still up b (g.held up o b before c)
        | inr new ↦ elim new [ inl is ↦ subst (IsHeld left) (of_this b o is c) (taken up) | inr none ↦ absurd none ]
      ];
    }

  holds_more : (app : AppId) (sweep : Sweep) → Holds sweep → Holds (swept t own waits now sweep app)
  holds_more app sweep g = swept_by t own waits now Holds sweep app
      (λ none. g)
      (λ mine used. record { state = g.state; alike = g.alike; grown = g.grown; later = g.later; held = g.held })
      (λ mine left. holds_claimed app sweep g (own_if own (candidate_of (verdict_of t sweep.state app)) (and_parts _ _ mine).0))

  holds_on : (apps : List AppId) (sweep : Sweep) → Holds sweep → Holds (sweep_over t own waits now sweep apps)
  holds_on [] sweep g = g
  holds_on (app ∷ apps) sweep g = holds_on apps (swept t own waits now sweep app) (holds_more app sweep g)

  itself : (n : ℕ) → n ≤ n
  itself n = omega arith

  holds : (apps : List AppId) → IsState s → Holds (sweep_over t own waits now (sweep_from s) apps)
  holds apps is = holds_on apps (sweep_from s) (record { state = is; alike = alike_itself s; grown = λ app. itself (next_term s app); later = λ o app i c. absurd i; held = λ up o app i c. absurd i })

pub claims_stay : ClaimsStay
claims_stay t own waits now s apps is live o app i c =
    let end = (sweep_over t own waits now (sweep_from s) apps).state in
    let g = holds t own waits now s apps is in
    let h = g.held live o app i c in
    let up : IsUp end own = subst (λ (lives : Lives). IsLive lives own.node own.inc) g.alike.lives live in
    record {
      verdict = subst (IsVerdict t end app) (kept_here t own end up app h.takes h.there (verdict_of t end app) (verdict_in_words t end app)) (verdict_in_words t end app);
      runs = (runs_is t end app own.node).0 (takes_runs t own end up app h.takes);
    }

pub claims_are_later : ClaimsAreLater
claims_are_later t own waits now s apps is o app i term how from act claim there =
    let le : next_term s app ≤ term = (holds t own waits now s apps is).later o app i (term, how, from, act) in
    let next : next_term s app ≡ claim.term + 1 = ap (λ c. option_map_or (λ (x : ClaimValue). x.term) c 0 + 1) there in
    omega arith
