-- The computed standing is the standing in words, for every configuration and every state.
use Rattle.std.specs.Prelude.{◌≡◌, true, false, not, cond, None, Some, refl}
use Rattle.std.proofs.Common.{sym, ◌∙◌}
use Rattle.std.specs.Option.{option_map_or}
use Rattle.std.proofs.lemmas.Bool.{true≢false}
use Rattle.dac_base.specs.declared.AppId.{AppId}
use Rattle.dac_origins.specs.declared.dot.Origin.{Origin}
use Rattle.dac_config.specs.Table.{Table}
use Rattle.dac_state.specs.StateValue.{StateValue}
use Rattle.dac_placement.specs.declared.standing.Standing.TheVariants.{Unclaimed, Lost, Stopped, Barred, Upheld}
use Rattle.dac_placement.specs.Placement.{is_allowed_at, is_started_at, holder_of, is_up, key_of, IsStanding, standing_at, standing_of}
use Rattle.dac_placement.specs.laws.Tests.{up_is, allowed_is, started_is}

module _ (table : Table) (s : StateValue) (app : AppId) where
  at_holder : (o : Origin) → holder_of s app ≡ Some o → IsStanding table s app (standing_at table s app o)
  at_holder o is = elim (is_up s o) as (λ b. is_up s o ≡ b → IsStanding table s app (cond (not b) Lost (cond (not (is_started_at s (key_of app o))) (Stopped o.node) (cond (not (is_allowed_at table s (key_of app o))) Barred (Upheld o.node))))) [
    | false ↦ λ down. (o, is, λ up. true≢false (sym ((up_is s o).1 up) ∙ down))
    | true ↦ λ up. elim (is_started_at s (key_of app o)) as (λ b. is_started_at s (key_of app o) ≡ b → IsStanding table s app (cond (not b) (Stopped o.node) (cond (not (is_allowed_at table s (key_of app o))) Barred (Upheld o.node)))) [
      | false ↦ λ stopped. (o, is, (refl, (up_is s o).0 up, λ started. true≢false (sym ((started_is table s app o.node o.inc).1 started) ∙ stopped)))
      | true ↦ λ started. elim (is_allowed_at table s (key_of app o)) as (λ b. is_allowed_at table s (key_of app o) ≡ b → IsStanding table s app (cond (not b) Barred (Upheld o.node))) [
        | false ↦ λ barred. (o, is, ((up_is s o).0 up, (started_is table s app o.node o.inc).0 started, λ permitted. true≢false (sym ((allowed_is table s app o.node o.inc).1 permitted) ∙ barred)))
        | true ↦ λ permitted. (o, is, (refl, (up_is s o).0 up, (started_is table s app o.node o.inc).0 started, (allowed_is table s app o.node o.inc).0 permitted))
      ] refl
    ] refl
  ] refl

  pub standing_is : IsStanding table s app (standing_of table s app)
  standing_is = elim (holder_of s app) as (λ h. holder_of s app ≡ h → IsStanding table s app (option_map_or (standing_at table s app) h Unclaimed)) [
    | None ↦ λ is. is
    | Some o ↦ λ is. at_holder o is
  ] refl
