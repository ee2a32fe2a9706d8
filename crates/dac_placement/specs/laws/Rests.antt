-- The standing and the eligible nodes decide whether a verdict leaves an application alone, for every configuration and
-- every state; loads don't matter.
use Rattle.std.specs.Prelude.{◌≡◌, ◌↔◌, ℕ, true, false, cond, Option, None, Some, refl}
use Rattle.std.proofs.Common.{sym, ap, subst, ◌∙◌}
use Rattle.std.proofs.lemmas.Bool.{false_from_ne_true}
use Rattle.dac_base.specs.declared.NodeId.{NodeId}
use Rattle.dac_base.specs.declared.AppId.{AppId}
use Rattle.dac_config.specs.Table.{Table}
use Rattle.dac_chains.specs.Lives.{IsLive}
use Rattle.dac_chains.specs.laws.Live.{live_is}
use Rattle.dac_state.specs.StateValue.{StateValue}
use Rattle.dac_placement.specs.declared.standing.Standing.{Standing}
use Rattle.dac_placement.specs.declared.standing.Standing.TheVariants.{Unclaimed, Lost, Stopped, Barred, Upheld}
use Rattle.dac_placement.specs.declared.verdicts.Verdict.TheVariants.{Takeover, Kept}
use Rattle.dac_placement.specs.Placement.{IsPermittedAt, IsStartedAt, key_at, IsDrainedAt, RunsAt, is_earlier, IsFirst, first_choice, standing_of, verdict_by, verdict_of, candidate_of}
use Rattle.dac_placement.specs.InWords.{Rests}
use Rattle.dac_placement.specs.laws.FirstChoice.{first_is}
use Rattle.dac_placement.specs.laws.Judged.{IsChoice, earlier_if, none_earlier}

some_none : {X : Type 0} {v : X} {Y : Type 0} → ◌≡◌ {A = Option X} (Some v) None → Y
some_none e = cc

module _ (table : Table) (s : StateValue) (app : AppId) where
  -- ---- verdicts without a candidate

  rests_by : (standing : Standing) (first : Option NodeId) → IsChoice table s app first → candidate_of (verdict_by table app standing first) ≡ None → Rests table s app standing
  rests_by (Stopped n) first is none = tt
  rests_by (Upheld n) None is none = λ m lt may before. is m lt may
  rests_by (Upheld n) (Some m) is none = elim (is_earlier table app m n) as (λ b. is_earlier table app m n ≡ b → candidate_of (cond b (Takeover m) (Kept n)) ≡ None → Rests table s app (Upheld n)) [
    | true ↦ λ e none. some_none none
    | false ↦ λ e none. none_earlier table s app m n is e
  ] refl none
  rests_by Unclaimed None is none = is
  rests_by Lost None is none = is
  rests_by Barred None is none = is
  rests_by Unclaimed (Some m) is none = some_none none
  rests_by Lost (Some m) is none = some_none none
  rests_by Barred (Some m) is none = some_none none

  if_rests_by : (standing : Standing) (first : Option NodeId) → IsChoice table s app first → Rests table s app standing → candidate_of (verdict_by table app standing first) ≡ None
  if_rests_by (Stopped n) first is rests = refl
  if_rests_by (Upheld n) None is rests = refl
  if_rests_by (Upheld n) (Some m) is rests = ap (λ b. candidate_of (cond b (Takeover m) (Kept n))) (false_from_ne_true (is_earlier table app m n) (λ e. rests m is.node is.eligible (earlier_if table app m n e)))
  if_rests_by Unclaimed None is rests = refl
  if_rests_by Lost None is rests = refl
  if_rests_by Barred None is rests = refl
  if_rests_by Unclaimed (Some m) is rests = absurd (rests m is.node is.eligible)
  if_rests_by Lost (Some m) is rests = absurd (rests m is.node is.eligible)
  if_rests_by Barred (Some m) is rests = absurd (rests m is.node is.eligible)

  pub rests_is : (candidate_of (verdict_of table s app) ≡ None) ↔ Rests table s app (standing_of table s app)
  rests_is = (
    rests_by (standing_of table s app) (first_choice table s app) (first_is table s app),
    if_rests_by (standing_of table s app) (first_choice table s app) (first_is table s app),
  )

  -- ---- candidates

  candidate_by : (standing : Standing) (first : Option NodeId) (n : NodeId) → candidate_of (verdict_by table app standing first) ≡ Some n → first ≡ Some n
  candidate_by (Stopped m) first n e = some_none (sym e)
  candidate_by (Upheld m) None n e = some_none (sym e)
  candidate_by (Upheld m) (Some k) n e = elim (is_earlier table app k m) as (λ b. candidate_of (cond b (Takeover k) (Kept m)) ≡ Some n → ◌≡◌ {A = Option NodeId} (Some k) (Some n)) [
    | true ↦ λ e. e
    | false ↦ λ e. some_none (sym e)
  ] e
  candidate_by Unclaimed None n e = some_none (sym e)
  candidate_by Lost None n e = some_none (sym e)
  candidate_by Barred None n e = some_none (sym e)
  candidate_by Unclaimed (Some k) n e = e
  candidate_by Lost (Some k) n e = e
  candidate_by Barred (Some k) n e = e

  pub candidate_is : (n : NodeId) → candidate_of (verdict_of table s app) ≡ Some n → IsFirst table s app n
  candidate_is n e = subst (IsChoice table s app) (candidate_by (standing_of table s app) (first_choice table s app) n e) (first_is table s app)

  -- ---- the runner

  same_inc : (a b : ℕ) (live : Option ℕ) → live ≡ Some a → live ≡ Some b → a ≡ b
  same_inc a b live e f = one (sym e ∙ f)
    where
      one : {x y : ℕ} → ◌≡◌ {A = Option ℕ} (Some x) (Some y) → x ≡ y
      one e = cc

  -- ---- drained incarnations

  pub drained_runs_nothing : (n : NodeId) (inc : ℕ) → IsLive s.lives n inc → IsDrainedAt s n inc → ¬ RunsAt table s app n
  drained_runs_nothing n inc live drained r =
      let same = same_inc inc r.eligible.inc _ ((live_is s.lives n inc).1 live) ((live_is s.lives n r.eligible.inc).1 r.eligible.live) in
      r.eligible.allowed.1 (subst (λ i. IsDrainedAt s n i) same drained)

  -- ---- only allowed applications run

  pub only_allowed_run : (n : NodeId) (inc : ℕ) → IsLive s.lives n inc → RunsAt table s app n → IsPermittedAt table s (key_at app n inc) × IsStartedAt s (key_at app n inc)
  only_allowed_run n inc live r =
      let same = same_inc r.eligible.inc inc _ ((live_is s.lives n r.eligible.inc).1 r.eligible.live) ((live_is s.lives n inc).1 live) in
      (subst (λ i. IsPermittedAt table s (key_at app n i)) same r.eligible.allowed.0, subst (λ i. IsStartedAt s (key_at app n i)) same r.eligible.started)
