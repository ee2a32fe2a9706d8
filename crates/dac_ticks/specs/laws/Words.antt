-- A sweep agrees with the words.
use Rattle.std.proofs.Common.{◌≡◌, ℕ, ◌+◌, ◌<◌, ◌≤◌, Bool, true, false, cond, List, [], ◌∷◌, ◌++◌, Option, None, Some, length, refl, sym, ap, subst, ◌∙◌, arith, append-nil, append_assoc, inl, inr}
use Rattle.dac_ticks.specs.laws.Common.{option_map_or, false≢true, false_from_ne_true, and_parts, and_from, eqb-true, eq-eqb, MAX_COUNTER, NodeId, AppId, Origin, How, Operation, StateValue, join, meaning_of, Table, app_count, Verdict, Failover, Halted, Move, Kept, Nobody, apps_of, candidate_of, holder_of, is_eligible, IsVerdict, verdict_of, eligible_is, verdict_in_words, Noted, waits_of, greatest_counter, claim_act, terms_used_up, Sweep, sweep_from, passing, claiming, claimed_by, claim_of, is_mine, sweep_over, sweep_of, found_of}
use Rattle.std.specs.Prelude.{◌==◌}
use Rattle.std.specs.Option.{is_some, option_map}
use Rattle.std.specs.FinMap as map
use Rattle.std.proofs.lemmas.Bool.{true≢false}
use Rattle.std.proofs.lemmas.List.FromFn.{length-map-range_with_len}
use Rattle.dac_chains.specs.declared.claims.Claim.{Claim}
use Rattle.dac_chains.specs.declared.claims.How.TheVariants.{Normal, Failover as FailedOver, Takeover as TakenOver}
use Rattle.dac_placement.specs.declared.verdicts.Verdict.TheVariants.{Start, Takeover}
use Rattle.dac_placement.specs.laws.Rests.{candidate_is}
use Rattle.dac_decide.specs.FailoverWait.{Note, IsHeldAt, is_due_by, noted_at, noted_of}
use Rattle.dac_decide.specs.laws.Due.{due_to_words}
use Rattle.dac_decide.specs.laws.Kept.{kept_is}
use Rattle.dac_commands.specs.Causes.{used_up}
use Rattle.dac_commands.specs.Written.{IsNextClaim}
use Rattle.dac_commands.specs.laws.Counters.{next_of_is}
use Rattle.dac_commands.specs.laws.Terms.{terms_used_up_is, next_claim_is}
use Rattle.dac_ticks.specs.Ticks.{held_by}
use Rattle.dac_ticks.specs.declared.sweeping.Found.TheVariants.{Left, Passed, Claimed}
use Rattle.dac_ticks.specs.InWords.{IsMine, IsNotMine, ComesBy, IsClaimOf, IsSweep, HasRoom}
use Rattle.dac_ticks.specs.laws.Counters.{counter_after}
use Rattle.dac_ticks.specs.laws.Sweeping.{AreBelow, numbered, apps_below, claim_is_bare, swept_by}
use Rattle.dac_ticks.specs.laws.Claims.{less_room, room_after, counter_left}

-- ---- candidates

-- the node is the incarnation's
abbrev pub is_own : Origin → Option NodeId → Bool
is_own own candidate = option_map_or (λ (n : NodeId). n.0 == own.node.0) candidate false

pub own_if : (own : Origin) (candidate : Option NodeId) → is_own own candidate ≡ true → candidate ≡ Some own.node
own_if own None e = absurd (false≢true e)
own_if own (Some n) e = let same = eqb-true n.0 own.node.0 e in λ i. Some (record { 0 = same i })

pub if_own : (own : Origin) (candidate : Option NodeId) → candidate ≡ Some own.node → is_own own candidate ≡ true
if_own own candidate e = ap (is_own own) e ∙ eq-eqb own.node.0 own.node.0 refl

-- the incarnation's node is eligible for an application that is its to claim
mine_is_eligible : (t : Table) (own : Origin) (waits : List (Option Noted)) (now : ℕ) (s : StateValue) (app : AppId) → is_mine t own waits now s app ≡ true → is_eligible t s app own.node ≡ true
mine_is_eligible t own waits now s app mine = (eligible_is t s app own.node).1 (candidate_is t s app own.node (own_if own (candidate_of (verdict_of t s app)) (and_parts _ _ mine).0)).eligible

-- so a sweep leaves an application alone for which its node isn't eligible
pub left_unless : (t : Table) (own : Origin) (waits : List (Option Noted)) (now : ℕ) (s : StateValue) (app : AppId) → is_eligible t s app own.node ≡ false → found_of t own waits now s app ≡ Left
left_unless t own waits now s app barred =
    ap (λ b. cond b (cond (terms_used_up s app) Passed (Claimed (claim_of t own s app) (join s (meaning_of (claim_of t own s app ∷ []))))) Left)
    (false_from_ne_true (is_mine t own waits now s app) (λ mine. true≢false (sym (mine_is_eligible t own waits now s app mine) ∙ barred)))

-- ---- holders

held_if : (s : StateValue) (app : AppId) (o : Origin) (greatest : Option Claim) → map.get s.claims app ≡ greatest → option_map (λ (claim : Claim). claim.origin) greatest ≡ Some o → IsHeldAt s app o.node
held_if s app o None is e = absurd (false≢true (ap is_some e))
held_if s app o (Some claim) is e = let same : claim.origin ≡ o = one e in (claim, is, ap (λ (p : Origin). p.node) same)
  where
    one : {a b : Origin} → ◌≡◌ {A = Option Origin} (Some a) (Some b) → a ≡ b
    one e = cc

held_at : (s : StateValue) (app : AppId) (o : Origin) → holder_of s app ≡ Some o → IsHeldAt s app o.node
held_at s app o e = held_if s app o (map.get s.claims app) refl e

held_node : (s : StateValue) (app : AppId) (o : Origin) → holder_of s app ≡ Some o → held_by s app ≡ Some o.node
held_node s app o e = ap (option_map (λ (p : Origin). p.node)) e

-- ---- claims

module _ (t : Table) (own : Origin) (s : StateValue) (app : AppId) (left : used_up s own ≡ false) (term : terms_used_up s app ≡ false) where
  no_candidate : {X : Type 0} → ◌≡◌ {A = Option NodeId} None (Some own.node) → X
  no_candidate e = absurd (false≢true (ap is_some e))

  claims_by : (verdict : Verdict) → IsVerdict t s app verdict → candidate_of verdict ≡ Some own.node
      → (how : How) × (from : Option NodeId) × (ComesBy s app verdict how from × (claimed_by s app verdict ≡ claim_act s app how from))
  claims_by (Start n) is e = (Normal, None, ((refl, refl), refl))
  claims_by (Failover n) is e = (FailedOver, held_by s app, ((refl, is.0.0.node, (held_at s app is.0.0 is.0.1, held_node s app is.0.0 is.0.1)), refl))
  claims_by (Halted n) is e = no_candidate e
  claims_by (Move n) is e = (Normal, None, ((refl, refl), refl))
  claims_by (Takeover n) is e = (TakenOver, held_by s app, ((refl, is.1.0.node, (held_at s app is.1.0 is.1.1, held_node s app is.1.0 is.1.1)), refl))
  claims_by (Kept n) is e = no_candidate e
  claims_by Nobody is e = no_candidate e

  claim_in_words : candidate_of (verdict_of t s app) ≡ Some own.node → IsClaimOf own s app (verdict_of t s app) (claim_of t own s app)
  claim_in_words e =
      let by = claims_by (verdict_of t s app) (verdict_in_words t s app) e in
      record {
        dot = next_of_is s.known own left;
        how = by.0;
        from = by.1;
        comes = by.2.0;
        claims = subst (λ act. IsNextClaim s app by.0 by.1 act) (sym by.2.1) (next_claim_is s app by.0 by.1 term);
      }

-- ---- sweeps

module _ (t : Table) (own : Origin) (notes : List Note) (now : ℕ) where
  module _ (s : StateValue) (app : AppId) (listed : app.0 < app_count t) where
    -- the waits decide whether a verdict is due
    due_is : is_due_by t (noted_at (waits_of t notes) app) s app now (verdict_of t s app) ≡ is_due_by t (noted_of app notes) s app now (verdict_of t s app)
    due_is = ap (λ noted. is_due_by t noted s app now (verdict_of t s app)) (kept_is t notes app listed)

    mine_in_words : is_mine t own (waits_of t notes) now s app ≡ true → IsMine t own notes now s app (verdict_of t s app)
    mine_in_words e = let both = and_parts _ _ e in
        record {
          verdict_is = verdict_in_words t s app;
          candidate = own_if own (candidate_of (verdict_of t s app)) both.0;
          due = (due_to_words t notes s app now).0 (sym due_is ∙ both.1);
        }

    not_mine_in_words : is_mine t own (waits_of t notes) now s app ≡ false → IsNotMine t own notes now s app
    not_mine_in_words e = record {
      verdict = verdict_of t s app;
      verdict_is = verdict_in_words t s app;
      left = λ candidate due. true≢false (sym (and_from _ _ (if_own own (candidate_of (verdict_of t s app)) candidate) (due_is ∙ (due_to_words t notes s app now).1 due)) ∙ e);
    }

  -- the operations and passed applications of a sweep from here on
  pub record SweepsOn (apps : List AppId) (sweep later : Sweep) : Type 0 where
    pub ops : List Operation
    pub passed : List AppId
    pub ops_are : later.ops ≡ sweep.ops ++ ops
    pub passed_are : later.passed ≡ sweep.passed ++ passed
    pub words : IsSweep t own notes now sweep.state apps ops passed

  abbrev over : Sweep → List AppId → Sweep
  over sweep apps = sweep_over t own (waits_of t notes) now sweep apps

  sweeps_on : (apps : List AppId) → AreBelow (app_count t) apps → (sweep : Sweep) → greatest_counter own sweep.state.known + length apps ≤ MAX_COUNTER → SweepsOn apps sweep (over sweep apps)
  sweeps_on [] below sweep room = record { ops = []; passed = []; ops_are = sym (append-nil sweep.ops); passed_are = sym (append-nil sweep.passed); words = (refl, refl) }
  sweeps_on (app ∷ apps) below sweep room =
      let g = greatest_counter own sweep.state.known in
      swept_by t own (waits_of t notes) now (λ next. SweepsOn (app ∷ apps) sweep (over next apps)) sweep app
      (λ none.
      let rest = sweeps_on apps below.1 sweep (less_room g (length apps) MAX_COUNTER room) in
      record { ops = rest.ops; passed = rest.passed; ops_are = rest.ops_are; passed_are = rest.passed_are; words = inl (not_mine_in_words sweep.state app below.0 none, rest.words) })
      (λ mine used.
      let rest = sweeps_on apps below.1 (passing sweep app) (less_room g (length apps) MAX_COUNTER room) in
      record {
        ops = rest.ops;
        passed = app ∷ rest.passed;
        ops_are = rest.ops_are;
        passed_are = rest.passed_are ∙ append_assoc sweep.passed (app ∷ []) rest.passed;
        words = inr (inr (verdict_of t sweep.state app, rest.passed, (refl, (mine_in_words sweep.state app below.0 mine, ((terms_used_up_is sweep.state app).0 used, rest.words)))));
      })
      (λ mine left.
      let o = claim_of t own sweep.state app in
      let rest = sweeps_on apps below.1 (claiming sweep o)
      (room_after g (length apps) MAX_COUNTER (greatest_counter own (claiming sweep o).state.known) (counter_after own sweep.state o.act (claim_is_bare sweep.state app (verdict_of t sweep.state app))) room) in
      let is = mine_in_words sweep.state app below.0 mine in
      record {
        ops = o ∷ rest.ops;
        passed = rest.passed;
        ops_are = rest.ops_are ∙ append_assoc sweep.ops (o ∷ []) rest.ops;
        passed_are = rest.passed_are;
        words = inr (inl (
          verdict_of t sweep.state app,
          o,
          rest.ops,
          (refl, (is, (claim_in_words t own sweep.state app (counter_left g (length apps) MAX_COUNTER room) left is.candidate, rest.words))),
        ));
      })

  pub sweep_in_words : (s : StateValue) → HasRoom t own s → let sweep = sweep_of t own (waits_of t notes) now s in IsSweep t own notes now s (apps_of t) sweep.ops sweep.passed
  sweep_in_words s room =
      let all = sweeps_on (apps_of t) (apps_below 0 (app_count t) (app_count t) (omega arith)) (sweep_from s) (subst (λ n. greatest_counter own s.known + n ≤ MAX_COUNTER) (sym (length-map-range_with_len numbered 0 (app_count t))) room) in
      let ops_are : (sweep_of t own (waits_of t notes) now s).ops ≡ all.ops = all.ops_are in
      let passed_are : (sweep_of t own (waits_of t notes) now s).passed ≡ all.passed = all.passed_are in
      subst (λ ops. IsSweep t own notes now s (apps_of t) ops (sweep_of t own (waits_of t notes) now s).passed) (sym ops_are)
      (subst (λ passed. IsSweep t own notes now s (apps_of t) all.ops passed) (sym passed_are) all.words)
