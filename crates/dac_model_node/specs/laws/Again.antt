-- A second tick of a node at the same moment claims nothing.
use Rattle.std.proofs.Common.{◌≡◌, ℕ, Bool, true, false, not, cond, ◌||◌, List, [], ◌∷◌, ◌++◌, length, Option, Some, None, Result, Ok, refl, sym, ap, subst, ◌∙◌, inl, inr, arith, true≢false}
use Rattle.dac_model_node.specs.laws.Common.{nat_lt, ltb-true, false_from_ne_true, NodeId, AppId, Origin, IsLive, Act, Operation, StateValue, IsState, join, meaning_of, Table, is_up, up_is, Opening, Shut, Opened, GiveUp, Noted, Note, waits_of, Tick, Reply, Ticked, Refusal, DeclaredDown, MomentBack, DotsUsedUp, next_operation, declared_down, none_is, Sweep, sweep_of, claim_of, numbered, swept_by, sweep_reaches, state_joined, ModelNode, ModelRunning, base_after, joined, running_shown, causes_to_tick, refusal_to_tick, needed, too_few_left, too_many_deltas, meanings, opening_at, ticks_by, goes_on, model_step, step_by}
use Rattle.dac_chains.specs.Lives.{Lives}
use Rattle.dac_decide.specs.Placement.{verdict_of}
use Rattle.dac_commands.specs.Causes.{first as first_cause}
use Rattle.dac_ticks.specs.laws.Claimed.{claim_alike, claim_state, claimed_as}
use Rattle.dac_ticks.specs.laws.Again.{second_tick}
use Rattle.dac_ticks.specs.Again.{IsAmong}
use Rattle.dac_model_node.specs.Again.{ClaimsNothing, HoldsState, SecondTickClaimsNothing}
use Rattle.dac_model_node.specs.laws.Steps.{joined-append}

-- ---- an incarnation stays live through its own claims

module _ (t : Table) (own : Origin) where
  pub record StillUp (s : StateValue) : Type 0 where
    pub state : IsState s
    pub live : IsLive s.lives own.node own.inc

  after_claim : (u : StateValue) (app : AppId) → StillUp u → StillUp (join u (meaning_of (claim_of t own u app ∷ [])))
  after_claim u app h =
      let by = claimed_as u app (verdict_of t u app) in
      subst (λ (act : Act). StillUp (join u (meaning_of (next_operation u own act ∷ [])))) (sym by.2) (record {
        state = claim_state own u app by.0 by.1 h.state;
        live = subst (λ (lives : Lives). IsLive lives own.node own.inc) (claim_alike own u app by.0 by.1 h.state).lives h.live;
      })

  still_up : (waits : List (Option Noted)) (now : ℕ) (s : StateValue) → StillUp s → StillUp (sweep_of t own waits now s).state
  still_up waits now s up = sweep_reaches t own waits now (λ n sweep. StillUp sweep.state) s up (λ n sweep lt h.
      swept_by t own waits now (λ (after : Sweep). StillUp after.state) sweep (numbered n) (λ none. h) (λ mine used. h) (λ mine left. after_claim sweep.state (numbered n) h))

-- ---- incarnations that are declared down

live_if : (own : Origin) (s : StateValue) → declared_down own s ≡ false → IsLive s.lives own.node own.inc
live_if own s h = (up_is s own).0 (swept (is_up s own) h)
  where
    swept : (b : Bool) → not b ≡ false → b ≡ true
    swept true e = refl
    swept false e = absurd (true≢false e)

up_if : (own : Origin) (s : StateValue) → IsLive s.lives own.node own.inc → declared_down own s ≡ false
up_if own s live = ap not ((up_is s own).1 live)

not_before : (n : ℕ) → nat_lt n n ≡ false
not_before n = false_from_ne_true _ (λ e. let less = ltb-true n n e in omega arith)

-- ---- the second tick

module _ (t : Table) (me : NodeId) (last now : ℕ) (r : ModelRunning) (is : IsState (joined r.log)) where
  abbrev s : StateValue
  s = joined r.log

  abbrev noted : List Note
  noted = record { state = s; moment = now } ∷ r.notes

  abbrev sweep : Sweep
  sweep = sweep_of t r.origin (waits_of t noted) now s

  -- the running node after the first tick
  abbrev later : ModelRunning
  later = record { origin = r.origin; moments = record { booted = r.moments.booted; last = now }; is_open = true; notes = noted; log = r.log ++ meanings sweep.ops; base = base_after r.base (length (r.log ++ meanings sweep.ops)) 0; peers = r.peers }

  abbrev there : ModelNode
  there = record { last = last; running = Some later }

  later_state : joined later.log ≡ sweep.state
  later_state = joined-append r.log (meanings sweep.ops) ∙ sym (state_joined t r.origin (waits_of t noted) now s)

  -- the second sweep, in this state
  abbrev again : StateValue → Sweep
  again u = sweep_of t r.origin (waits_of t (record { state = u; moment = now } ∷ noted)) now u

  abbrev IsIdle : StateValue → Type 0
  IsIdle u = ((again u).ops ≡ []) × ((app : AppId) → IsAmong app (again u).passed → IsAmong app sweep.passed)

  module _ (up : IsLive s.lives r.origin.node r.origin.inc) where
    idle : IsIdle (joined later.log)
    idle = let quiet = second_tick t r.origin r.notes now s is up in subst IsIdle (sym later_state) (quiet.0, quiet.1.1)

    still : declared_down r.origin (joined later.log) ≡ false
    still = up_if r.origin (joined later.log) (subst (λ (u : StateValue). IsLive u.lives r.origin.node r.origin.inc) (sym later_state) (still_up t r.origin (waits_of t noted) now s (record { state = is; live = up })).live)

    abbrev few : Bool
    few = too_few_left t (joined later.log) r.origin || too_many_deltas (running_shown t later) (needed t)

    refused : refusal_to_tick t (running_shown t later) now ≡ cond few (Some DotsUsedUp) None
    refused = λ i. first_cause ((still i, DeclaredDown) ∷ (not_before now i, MomentBack) ∷ (few, DotsUsedUp) ∷ [])

    claims_nothing : ClaimsNothing sweep.passed (model_step t me there (Tick now)).answer
    claims_nothing = elim few as (λ b. few ≡ b → ClaimsNothing sweep.passed (model_step t me there (Tick now)).answer) [
      | true ↦ λ e. inl (ap (λ x. (step_by x t me there (Tick now)).answer) (refused ∙ ap (λ b. cond b (Some DotsUsedUp) None) e))
      | false ↦ λ e. inr (
        (again (joined later.log)).passed,
        (
          ap (λ x. (step_by x t me there (Tick now)).answer) (refused ∙ ap (λ b. cond b (Some DotsUsedUp) None) e) ∙ ap (λ os. Ok (Ticked os (again (joined later.log)).passed)) idle.0,
          idle.1,
        ),
      )
    ] refl

  -- by the state of the start gate at the first tick
  by_opening : (o : Opening) (ops : List Operation) (passed : List AppId) → IsLive s.lives r.origin.node r.origin.inc → ◌≡◌ {A = Result Reply Refusal} (Ok (ticks_by o t (running_shown t r) (waits_of t noted) now).reply) (Ok (Ticked ops passed)) →
      ClaimsNothing passed (model_step t me (record { last = last; running = goes_on r (record { state = s; moment = now }) (ticks_by o t (running_shown t r) (waits_of t noted) now) }) (Tick now)).answer
  by_opening Shut ops passed up e = cc
  by_opening GiveUp ops passed up e = cc
  by_opening Opened ops passed up e = let same : sweep.passed ≡ passed = cc in subst (λ p. ClaimsNothing p (model_step t me there (Tick now)).answer) same (claims_nothing up)

  -- by the refusal of the first tick, if any
  by_refusal : (x : Option Refusal) (ops : List Operation) (passed : List AppId) → refusal_to_tick t (running_shown t r) now ≡ x → (step_by x t me (record { last = last; running = Some r }) (Tick now)).answer ≡ Ok (Ticked ops passed) →
      ClaimsNothing passed (model_step t me (step_by x t me (record { last = last; running = Some r }) (Tick now)).node (Tick now)).answer
  by_refusal (Some why) ops passed e answer = cc
  by_refusal None ops passed e answer =
      by_opening (opening_at t (running_shown t r) now) ops passed (live_if r.origin s (none_is (causes_to_tick t (running_shown t r) now) e).0) answer

second : (t : Table) (me : NodeId) (last : ℕ) (running : Option ModelRunning) (now : ℕ) (ops : List Operation) (passed : List AppId) → HoldsState (record { last = last; running = running }) →
    (model_step t me (record { last = last; running = running }) (Tick now)).answer ≡ Ok (Ticked ops passed) → ClaimsNothing passed (model_step t me (model_step t me (record { last = last; running = running }) (Tick now)).node (Tick now)).answer
second t me last None now ops passed is answer = cc
second t me last (Some r) now ops passed is answer = by_refusal t me last now r is (refusal_to_tick t (running_shown t r) now) ops passed refl answer

pub second_tick_claims_nothing : SecondTickClaimsNothing
second_tick_claims_nothing t me d now ops passed is answer = second t me d.last d.running now ops passed is answer
