-- The operations of a sweep. Each claim is the incarnation's next operation in the state that the earlier ones left, and
-- the last state is the first one joined with the meaning of each.
use Rattle.std.proofs.Common.{◌≡◌, ℕ, ◌+◌, ◌≤◌, false, List, [], ◌∷◌, ◌++◌, Option, length, refl, sym, ap, subst, ◌∙◌, arith, suc, append-nil, append_assoc}
use Rattle.dac_ticks.specs.laws.Common.{false_from_ne_true, MAX_COUNTER, AppId, Origin, Operation, StateValue, join, meaning_of, Table, app_count, apps_of, verdict_of, Noted, greatest_counter, terms_used_up, Sweep, sweep_from, passing, claiming, claim_of, sweep_over, sweep_of}
use Rattle.std.specs.Prelude.{◌<◌, nat_le, map as list_map, fold}
use Rattle.std.proofs.lemmas.Bool.{leb-true}
use Rattle.std.proofs.lemmas.List.FromFn.{length-map-range_with_len}
use Rattle.dac_commands.specs.Causes.{used_up}
use Rattle.dac_ticks.specs.InWords.{HasRoom}
use Rattle.dac_ticks.specs.Issued.{AreIssued}
use Rattle.dac_ticks.specs.laws.Counters.{counter_after}
use Rattle.dac_ticks.specs.laws.Sweeping.{AreBelow, numbered, apps_below, claim_is_bare, swept_by}

-- the state after hearing these operations in order
abbrev pub heard_in : StateValue → List Operation → StateValue
heard_in s os = fold join s (list_map (λ (o : Operation). meaning_of (o ∷ [])) os)

-- the operation claims an application of the configuration by its verdict in this state, and a term and a counter were
-- left
pub record IsNextClaimIn (t : Table) (own : Origin) (s : StateValue) (o : Operation) : Type 0 where
  pub app : AppId
  pub listed : app.0 < app_count t
  pub term : terms_used_up s app ≡ false
  pub counter : used_up s own ≡ false
  pub is : o ≡ claim_of t own s app

-- each operation is such a claim in the state that the earlier ones left
abbrev pub AreNextClaims : Table → Origin → StateValue → List Operation → Type 0
AreNextClaims t own s [] = Unit {0}
AreNextClaims t own s (o ∷ os) = IsNextClaimIn t own s o × AreNextClaims t own (join s (meaning_of (o ∷ []))) os

-- ---- a sweep continues

-- the later sweep issued these further operations, and heard them
pub record GoesOn (sweep later : Sweep) (ops : List Operation) : Type 0 where
  pub ops_are : later.ops ≡ sweep.ops ++ ops
  pub state : later.state ≡ heard_in sweep.state ops

pub goes_itself : (sweep : Sweep) → GoesOn sweep sweep []
goes_itself sweep = record { ops_are = sym (append-nil sweep.ops); state = refl }

-- a claim followed by further operations
pub goes_claiming : (sweep later : Sweep) (o : Operation) (ops : List Operation) → GoesOn (claiming sweep o) later ops → GoesOn sweep later (o ∷ ops)
goes_claiming sweep later o ops on = record { ops_are = on.ops_are ∙ append_assoc sweep.ops (o ∷ []) ops; state = on.state }

-- ---- a counter for each remaining application

pub less_room : (g k m : ℕ) → g + suc k ≤ m → g + k ≤ m
less_room g k m h = omega arith

pub room_after : (g k m n : ℕ) → n ≡ g + 1 → g + suc k ≤ m → n + k ≤ m
room_after g k m n e h = omega arith

past : (g k m : ℕ) → m ≤ g → g + suc k ≤ m → ⊥
past g k m e h = omega arith

pub counter_left : (g k m : ℕ) → g + suc k ≤ m → nat_le m g ≡ false
counter_left g k m h = false_from_ne_true (nat_le m g) (λ e. past g k m (leb-true m g e) h)

module _ (t : Table) (own : Origin) (waits : List (Option Noted)) (now : ℕ) where
  -- the operations that a sweep issues for these applications from here on
  abbrev pub Issues : (StateValue → List Operation → Type 0) → Sweep → Sweep → Type 0
  Issues P sweep later = (ops : List Operation) × (GoesOn sweep later ops × P sweep.state ops)

  goes_on : (apps : List AppId) (sweep : Sweep) → Issues (AreIssued own) sweep (sweep_over t own waits now sweep apps)
  goes_on [] sweep = ([], (goes_itself sweep, tt))
  goes_on (app ∷ apps) sweep =
      swept_by t own waits now (λ next. Issues (AreIssued own) sweep (sweep_over t own waits now next apps)) sweep app
      (λ none. goes_on apps sweep)
      (λ mine used. let rest = goes_on apps (passing sweep app) in (rest.0, (record { ops_are = rest.1.0.ops_are; state = rest.1.0.state }, rest.1.1)))
      (λ mine left.
      let o = claim_of t own sweep.state app in
      let rest = goes_on apps (claiming sweep o) in
      (o ∷ rest.0, (goes_claiming sweep (sweep_over t own waits now (claiming sweep o) apps) o rest.0 rest.1.0, ((o.act, refl), rest.1.1))))

  -- a sweep's operations are its incarnation's next ones in sequence, even if counters run out
  pub claims_issued : (s : StateValue) → AreIssued own s (sweep_of t own waits now s).ops
  claims_issued s = let all = goes_on (apps_of t) (sweep_from s) in subst (AreIssued own s) (sym all.1.0.ops_are) all.1.1

  -- the last state of a sweep is the first one joined with the meaning of each claim
  pub state_joined : (s : StateValue) → (sweep_of t own waits now s).state ≡ heard_in s (sweep_of t own waits now s).ops
  state_joined s = let all = goes_on (apps_of t) (sweep_from s) in all.1.0.state ∙ ap (heard_in s) (sym all.1.0.ops_are)

  claims_next : (apps : List AppId) → AreBelow (app_count t) apps → (sweep : Sweep) → greatest_counter own sweep.state.known + length apps ≤ MAX_COUNTER → Issues (AreNextClaims t own) sweep (sweep_over t own waits now sweep apps)
  claims_next [] below sweep room = ([], (goes_itself sweep, tt))
  claims_next (app ∷ apps) below sweep room =
      let g = greatest_counter own sweep.state.known in
      swept_by t own waits now (λ next. Issues (AreNextClaims t own) sweep (sweep_over t own waits now next apps)) sweep app
      (λ none. claims_next apps below.1 sweep (less_room g (length apps) MAX_COUNTER room))
      (λ mine used.
      let rest = claims_next apps below.1 (passing sweep app) (less_room g (length apps) MAX_COUNTER room) in
      (rest.0, (record { ops_are = rest.1.0.ops_are; state = rest.1.0.state }, rest.1.1)))
      (λ mine left.
      let o = claim_of t own sweep.state app in
      let rest = claims_next apps below.1 (claiming sweep o)
      (room_after g (length apps) MAX_COUNTER (greatest_counter own (claiming sweep o).state.known) (counter_after own sweep.state o.act (claim_is_bare sweep.state app (verdict_of t sweep.state app))) room) in (
        o ∷ rest.0,
        (goes_claiming sweep (sweep_over t own waits now (claiming sweep o) apps) o rest.0 rest.1.0, (record { app = app; listed = below.0; term = left; counter = counter_left g (length apps) MAX_COUNTER room; is = refl }, rest.1.1)),
      ))

  -- a sweep's operations are such claims, if there is a counter for each application
  pub claims_are : (s : StateValue) → HasRoom t own s → AreNextClaims t own s (sweep_of t own waits now s).ops
  claims_are s room =
      let all = claims_next (apps_of t) (apps_below 0 (app_count t) (app_count t) (omega arith)) (sweep_from s) (subst (λ n. greatest_counter own s.known + n ≤ MAX_COUNTER) (sym (length-map-range_with_len numbered 0 (app_count t))) room) in
      subst (AreNextClaims t own s) (sym all.1.0.ops_are) all.1.1
