-- An accepted command takes effect.
use Rattle.std.proofs.Common.{◌≡◌, ◌↔◌, ℕ, true, false, [], ◌∷◌, refl, sym, subst}
use Rattle.dac_ticks.specs.laws.Common.{NodeId, Origin, Table, default_permission, IsLive, StateValue, join, meaning_of, key_at, is_up, is_eligible, eligible_is, next_operation}
use Rattle.std.proofs.lemmas.Bool.{not-false}
use Rattle.dac_chains.specs.declared.lives.LifeAct.TheVariants.{Other as NoLife}
use Rattle.dac_chains.specs.declared.claims.How.TheVariants.{Takeover as TakenOver}
use Rattle.dac_operations.specs.Seen.{seen_life}
use Rattle.dac_placement.specs.Placement.{IsPermittedAt, IsStartedAt, IsDrainedAt, runner_of}
use Rattle.dac_placement.specs.laws.Tests.{up_is}
use Rattle.dac_events.specs.declared.Command.{Command}
use Rattle.dac_events.specs.declared.Command.TheVariants.{Down, Permit, Start, Stop, Drain, Takeover}
use Rattle.dac_commands.specs.Commands.{live_key, live_or_none, act_of}
use Rattle.dac_commands.specs.Causes.{not_live}
use Rattle.dac_commands.specs.laws.Written.{none_is, all_causes, live_there}
use Rattle.dac_ticks.specs.TakesEffect.{AtLive, CommandsTakeEffect}
use Rattle.dac_ticks.specs.laws.Claimed.{lives_stay}
use Rattle.dac_ticks.specs.laws.Effects.{start_is_wished, stop_is_unwished, permit_holds, drain_holds, down_ends, claim_runs}

module _ (t : Table) (own : Origin) (s : StateValue) where
  -- the state that the command's operation leaves
  abbrev left : Command → StateValue
  left c = join s (meaning_of (next_operation s own (act_of t s c) ∷ []))

  -- a property of the live incarnation still holds after an operation that doesn't concern a life
  at_live : (c : Command) (node : NodeId) (P : ℕ → Type 0) → seen_life (act_of t s c) ≡ NoLife → not_live s node ≡ false → P (live_or_none s node) → AtLive (left c) node P
  at_live c node P silent live is =
      (live_or_none s node, (subst (λ lives. IsLive lives node (live_or_none s node)) (sym (lives_stay own s (act_of t s c) silent)) (live_there t own s node live), is))

pub commands_take_effect : CommandsTakeEffect
commands_take_effect t own s (Start app node) is none =
    let c = Start app node in
    at_live t own s c node (λ inc. IsStartedAt (left t own s c) (key_at app node inc)) refl (none_is (all_causes t own s c) none).1.1.1.1.0 (start_is_wished own s is (live_key s app node))
commands_take_effect t own s (Stop app node) is none =
    let c = Stop app node in
    at_live t own s c node (λ inc. ¬ IsStartedAt (left t own s c) (key_at app node inc)) refl (none_is (all_causes t own s c) none).1.1.1.1.0 (stop_is_unwished own s is (live_key s app node))
commands_take_effect t own s (Permit app node value) is none =
    let c = Permit app node value in
    at_live t own s c node (λ inc. IsPermittedAt t (left t own s c) (key_at app node inc) ↔ (value ≡ true)) refl (none_is (all_causes t own s c) none).1.1.1.1.0
    (permit_holds own s is value (live_key s app node) (default_permission t app))
commands_take_effect t own s (Drain node value) is none =
    let c = Drain node value in
    at_live t own s c node (λ inc. IsDrainedAt (left t own s c) node inc ↔ (value ≡ true)) refl (none_is (all_causes t own s c) none).1.1.0 (drain_holds own s is value node (live_or_none s node))
commands_take_effect t own s (Down node) is none = λ later.
    down_ends own s node (live_or_none s node) (live_there t own s node (none_is (all_causes t own s (Down node)) none).1.1.1.0) later
commands_take_effect t own s (Takeover app) is none =
    let all = none_is (all_causes t own s (Takeover app)) none in
    let up = (up_is s own).0 (not-false (is_up s own) all.0) in
    claim_runs t own s app TakenOver (runner_of t s app) is up ((eligible_is t s app own.node).0 (not-false (is_eligible t s app own.node) all.1.1.1.0))
