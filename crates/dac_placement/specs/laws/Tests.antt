-- The tests of eligibility and of running agree with the definitions in words, for every configuration and every state.
use Rattle.std.specs.Prelude.{◌≡◌, ◌↔◌, ℕ, true, false, cond, ◌&&◌, ◌==◌, Option, None, Some, refl}
use Rattle.std.proofs.Common.{Bool, ap, sym, subst, ◌∙◌}
use Rattle.std.specs.Option.{is_some, option_map_or, option_and_then}
use Rattle.std.proofs.lemmas.Bool.{false≢true, and_parts, and_from, eqb-true, eq-eqb, not-true, not_from_false, false_from_ne_true}
use Rattle.dac_base.specs.declared.NodeId.{NodeId}
use Rattle.dac_base.specs.declared.AppId.{AppId}
use Rattle.dac_origins.specs.declared.dot.Origin.{Origin}
use Rattle.dac_config.specs.Table.{Table, group_of, default_permission}
use Rattle.dac_chains.specs.Lives.{live_at}
use Rattle.dac_chains.specs.laws.Live.{live_is}
use Rattle.dac_state.specs.laws.Wished.{is_wished-some}
use Rattle.dac_state.specs.laws.Permitted.{is_permitted-is}
use Rattle.dac_state.specs.laws.Drained.{is_drained-is}
use Rattle.dac_state.specs.DrainsValue.{origin}
use Rattle.dac_state.specs.StateValue.{StateValue, permissions_of, wishes_of, drains_of}
use Rattle.dac_placement.specs.Placement.{IsPermittedAt, is_permitted_at, IsDrainedAt, is_drained_at, IsAllowedAt, is_allowed_at, IsStartedAt, is_started_at, IsEligible, is_eligible, holder_of, key_at, IsUp, is_up, RunsAt, runs_at, runner_of}

-- ---- incarnations

module _ (s : StateValue) where
  up_if : (o : Origin) (live : Option ℕ) → live_at s.lives o.node ≡ live → option_map_or (λ inc. inc == o.inc) live false ≡ true → IsUp s o
  up_if o None is h = absurd (false≢true h)
  up_if o (Some inc) is h = (live_is s.lives o.node o.inc).0 (is ∙ ap (λ i. Some i) (eqb-true inc o.inc h))

  pub up_is : (o : Origin) → (is_up s o ≡ true) ↔ IsUp s o
  up_is o = (
    up_if o (live_at s.lives o.node) refl,
    λ up. ap (λ live. option_map_or (λ inc. inc == o.inc) live false) ((live_is s.lives o.node o.inc).1 up) ∙ eq-eqb o.inc o.inc refl,
  )

module _ (table : Table) (s : StateValue) where
  -- ---- keys

  pub permitted_is : (app : AppId) (node : NodeId) (inc : ℕ) → (is_permitted_at table s (key_at app node inc) ≡ true) ↔ IsPermittedAt table s (key_at app node inc)
  permitted_is app node inc = is_permitted-is (key_at app node inc) (default_permission table app) (permissions_of s)

  pub drained_is : (node : NodeId) (inc : ℕ) → (is_drained_at s node inc ≡ true) ↔ IsDrainedAt s node inc
  drained_is node inc = is_drained-is (origin node inc) (drains_of s)

  pub allowed_is : (app : AppId) (node : NodeId) (inc : ℕ) → (is_allowed_at table s (key_at app node inc) ≡ true) ↔ IsAllowedAt table s (key_at app node inc)
  allowed_is app node inc =
      let permitted = permitted_is app node inc in
      let drained = drained_is node inc in (
        λ h. let both = and_parts _ _ h in (permitted.0 both.0, λ d. false≢true (sym (not-true _ both.1) ∙ drained.1 d)),
        λ p. and_from _ _ (permitted.1 p.0) (not_from_false _ (false_from_ne_true _ (λ t. p.1 (drained.0 t)))),
      )

  pub started_is : (app : AppId) (node : NodeId) (inc : ℕ) → (is_started_at s (key_at app node inc) ≡ true) ↔ IsStartedAt s (key_at app node inc)
  started_is app node inc = is_wished-some (key_at app node inc) (wishes_of s)

  -- ---- eligible nodes

  module _ (app : AppId) (node : NodeId) where
    abbrev wanted : Option ℕ → Bool
    wanted live = option_map_or (λ inc. is_allowed_at table s (key_at app node inc) && is_started_at s (key_at app node inc)) live false

    eligible_if : (live : Option ℕ) → live_at s.lives node ≡ live → is_some (group_of table app node) ≡ true → wanted live ≡ true → IsEligible table s app node
    eligible_if None is listed h = absurd (false≢true h)
    eligible_if (Some inc) is listed h =
        let both = and_parts _ _ h in
        record { listed = listed; inc = inc; live = (live_is s.lives node inc).0 is; allowed = (allowed_is app node inc).0 both.0; started = (started_is app node inc).0 both.1 }

    pub eligible_is : (is_eligible table s app node ≡ true) ↔ IsEligible table s app node
    eligible_is = (
      λ h. let both = and_parts _ _ h in eligible_if (live_at s.lives node) refl both.0 both.1,
      λ e. and_from _ _ e.listed (ap wanted ((live_is s.lives node e.inc).1 e.live) ∙ and_from _ _ ((allowed_is app node e.inc).1 e.allowed) ((started_is app node e.inc).1 e.started)),
    )

    -- ---- running at a node

    abbrev held_here : Option Origin → Bool
    held_here holder = option_map_or (λ (o : Origin). (o.node.0 == node.0) && is_up s o) holder false

    here : (o : Origin) → o.node.0 ≡ node.0 → o ≡ record { node = node; inc = o.inc }
    here o e = λ i. record { node = record { 0 = e i }; inc = o.inc }

    runs_if : (holder : Option Origin) → holder_of s app ≡ holder → held_here holder ≡ true → IsEligible table s app node → RunsAt table s app node
    runs_if None is h may = absurd (false≢true h)
    runs_if (Some o) is h may =
        let both = and_parts _ _ h in
        let at = here o (eqb-true o.node.0 node.0 both.0) in
        record { inc = o.inc; holder = is ∙ ap (λ o. Some o) at; up = subst (IsUp s) at ((up_is s o).0 both.1); eligible = may }

    pub runs_is : (runs_at table s app node ≡ true) ↔ RunsAt table s app node
    runs_is = (
      λ h. let both = and_parts _ _ h in runs_if (holder_of s app) refl both.0 (eligible_is.0 both.1),
      λ r. and_from _ _ (ap held_here r.holder ∙ and_from _ _ (eq-eqb node.0 node.0 refl) ((up_is s (record { node = node; inc = r.inc })).1 r.up)) (eligible_is.1 r.eligible),
    )

  -- ---- the runner

  module _ (app : AppId) (node : NodeId) where
    abbrev at_holder : Option Origin → Option NodeId
    at_holder holder = option_and_then (λ (o : Origin). cond (runs_at table s app o.node) (Some o.node) None) holder

    one : {a b : NodeId} → ◌≡◌ {A = Option NodeId} (Some a) (Some b) → a ≡ b
    one e = cc

    runner_if : (holder : Option Origin) → at_holder holder ≡ Some node → RunsAt table s app node
    runner_if None h = absurd (false≢true (ap is_some h))
    runner_if (Some o) h = elim (runs_at table s app o.node) as (λ b. runs_at table s app o.node ≡ b → cond b (Some o.node) None ≡ Some node → RunsAt table s app node) [
      | true ↦ λ runs h. subst (RunsAt table s app) (one h) ((runs_is app o.node).0 runs)
      | false ↦ λ idle h. absurd (false≢true (ap is_some h))
    ] refl h

    pub runner_is : (runner_of table s app ≡ Some node) ↔ RunsAt table s app node
    runner_is = (
      runner_if (holder_of s app),
      λ r. ap at_holder r.holder ∙ ap (λ b. cond b (Some node) None) ((runs_is app node).1 r),
    )
