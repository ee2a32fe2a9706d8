-- One application of a sweep, and the end of a sweep.
use Rattle.std.proofs.Common.{◌≡◌, ℕ, ◌+◌, ◌<◌, ◌≤◌, Bool, true, false, cond, List, [], ◌∷◌, Option, refl, sym, ap, subst, ◌∙◌, arith, zero, suc, add-one}
use Rattle.dac_ticks.specs.laws.Common.{AppId, Origin, Operation, over_list, StateValue, join, meaning_of, Table, app_count, Verdict, Failover, Halted, Move, Kept, Nobody, verdict_of, Noted, KnowsOwnBoot, greatest_counter, terms_used_up, Sweep, sweep_from, passing, claiming, claimed_by, claim_of, is_mine, swept, sweep_over, sweep_of, found_of}
use Rattle.std.specs.Prelude.{map as list_map}
use Rattle.std.specs.List.{range_with_len}
use Rattle.std.proofs.lemmas.List.Sums.{fold-append}
use Rattle.std.proofs.lemmas.List.FromFn.{map-range_with_len_more}
use Rattle.dac_placement.specs.declared.verdicts.Verdict.TheVariants.{Start, Takeover}
use Rattle.dac_ticks.specs.declared.sweeping.Found.TheVariants.{Left, Passed, Claimed}
use Rattle.dac_ticks.specs.SweepSoFar.{added}
use Rattle.dac_ticks.specs.laws.Counters.{counter_after, knows_after}

-- ---- applications by their numbers

abbrev pub numbered : ℕ → AppId
numbered n = record { 0 = n }

-- n applications, beginning with number a
abbrev pub apps_from : ℕ → ℕ → List AppId
apps_from a n = list_map numbered (range_with_len a n)

-- each of them is below n
abbrev pub AreBelow : ℕ → List AppId → Type 0
AreBelow n [] = Unit {0}
AreBelow n (app ∷ apps) = (app.0 < n) × AreBelow n apps

pub apps_below : (a k n : ℕ) → a + k ≤ n → AreBelow n (apps_from a k)
apps_below a zero n h = tt
apps_below a (suc k) n h = (omega arith, apps_below (a + 1) k n (omega arith))

-- a claim replaces nothing
pub claim_is_bare : (s : StateValue) (app : AppId) (verdict : Verdict) → over_list (claimed_by s app verdict) ≡ []
claim_is_bare s app (Start n) = refl
claim_is_bare s app (Failover n) = refl
claim_is_bare s app (Halted n) = refl
claim_is_bare s app (Move n) = refl
claim_is_bare s app (Takeover n) = refl
claim_is_bare s app (Kept n) = refl
claim_is_bare s app Nobody = refl

module _ (t : Table) (own : Origin) (waits : List (Option Noted)) (now : ℕ) where
  -- A property holds after an application if it holds when the application is left, passed over and claimed.
  pub swept_by : (P : Sweep → Type 0) (sweep : Sweep) (app : AppId) → (is_mine t own waits now sweep.state app ≡ false → P sweep)
      → (is_mine t own waits now sweep.state app ≡ true → terms_used_up sweep.state app ≡ true → P (passing sweep app))
      → (is_mine t own waits now sweep.state app ≡ true → terms_used_up sweep.state app ≡ false → P (claiming sweep (claim_of t own sweep.state app)))
      → P (swept t own waits now sweep app)
  swept_by P sweep app rests passes claims =
      elim (is_mine t own waits now sweep.state app) as (λ b. is_mine t own waits now sweep.state app ≡ b → P (cond b (cond (terms_used_up sweep.state app) (passing sweep app) (claiming sweep (claim_of t own sweep.state app))) sweep)) [
        | true ↦ λ mine. elim (terms_used_up sweep.state app) as (λ b. terms_used_up sweep.state app ≡ b → P (cond b (passing sweep app) (claiming sweep (claim_of t own sweep.state app)))) [
          | true ↦ λ used. passes mine used
          | false ↦ λ left. claims mine left
        ] refl
        | false ↦ λ none. rests none
      ] refl

  -- a decision about an application is carried out
  by_tests : (sweep : Sweep) (app : AppId) (o : Operation) (mine used : Bool)
      → added sweep app (cond mine (cond used Passed (Claimed o (join sweep.state (meaning_of (o ∷ []))))) Left) ≡ cond mine (cond used (passing sweep app) (claiming sweep o)) sweep
  by_tests sweep app o true true = refl
  by_tests sweep app o true false = refl
  by_tests sweep app o false used = refl

  pub swept_is : (sweep : Sweep) (app : AppId) → added sweep app (found_of t own waits now sweep.state app) ≡ swept t own waits now sweep app
  swept_is sweep app = by_tests sweep app (claim_of t own sweep.state app) (is_mine t own waits now sweep.state app) (terms_used_up sweep.state app)

  -- one more application
  pub sweep_more : (sweep : Sweep) (n : ℕ) → sweep_over t own waits now sweep (apps_from 0 (n + 1)) ≡ swept t own waits now (sweep_over t own waits now sweep (apps_from 0 n)) (numbered n)
  sweep_more sweep n =
      ap (sweep_over t own waits now sweep) (map-range_with_len_more numbered 0 n n (omega arith))
      ∙ fold-append (swept t own waits now) sweep (apps_from 0 n) (numbered n ∷ [])

  -- A property that holds at the start, and is kept by each application, holds at the end.
  pub sweep_reaches : (P : ℕ → Sweep → Type 0) (s : StateValue) → P 0 (sweep_from s)
      → ((n : ℕ) (sweep : Sweep) → n < app_count t → P n sweep → P (n + 1) (swept t own waits now sweep (numbered n)))
      → P (app_count t) (sweep_of t own waits now s)
  sweep_reaches P s start keeps = up_to (app_count t) (omega arith)
    where
      up_to : (n : ℕ) → n ≤ app_count t → P n (sweep_over t own waits now (sweep_from s) (apps_from 0 n))
      up_to zero le = start
      up_to (suc n) le =
          let before = up_to n (omega arith) in
          subst (λ m. P m (sweep_over t own waits now (sweep_from s) (apps_from 0 m))) (add-one n)
          (subst (P (n + 1)) (sym (sweep_more (sweep_from s) n)) (keeps n (sweep_over t own waits now (sweep_from s) (apps_from 0 n)) (omega arith) before))

  -- ---- known dots

  pub swept_knows : (sweep : Sweep) (app : AppId) → KnowsOwnBoot own sweep.state → KnowsOwnBoot own (swept t own waits now sweep app).state
  swept_knows sweep app knows = swept_by (λ after. KnowsOwnBoot own after.state) sweep app (λ none. knows) (λ mine used. knows)
      (λ mine left. knows_after own sweep.state (claimed_by sweep.state app (verdict_of t sweep.state app)) (claim_is_bare sweep.state app (verdict_of t sweep.state app)) knows)

  -- an application uses at most one counter
  pub swept_counter : (sweep : Sweep) (app : AppId) → greatest_counter own (swept t own waits now sweep app).state.known ≤ greatest_counter own sweep.state.known + 1
  swept_counter sweep app =
      swept_by (λ after. greatest_counter own after.state.known ≤ greatest_counter own sweep.state.known + 1) sweep app
      (λ none. itself (greatest_counter own sweep.state.known)) (λ mine used. itself (greatest_counter own sweep.state.known))
      (λ mine left. at_most _ _ (counter_after own sweep.state (claimed_by sweep.state app (verdict_of t sweep.state app)) (claim_is_bare sweep.state app (verdict_of t sweep.state app))))
    where
      itself : (n : ℕ) → n ≤ n + 1
      itself n = omega arith

      at_most : (m n : ℕ) → m ≡ n → m ≤ n
      at_most m n e = omega arith
