-- An application that was stopped at a live holder stays there even if it is barred there, because stops are tested
-- first.
use Rattle.std.specs.Prelude.{◌≡◌, Bool, true, false, not, cond, Some}
use Rattle.std.proofs.Common.{ap, ◌∙◌}
use Rattle.std.specs.Option.{option_map_or}
use Rattle.std.proofs.lemmas.Bool.{false_from_ne_true}
use Rattle.dac_base.specs.declared.NodeId.{NodeId}
use Rattle.dac_base.specs.declared.AppId.{AppId}
use Rattle.dac_origins.specs.declared.dot.Origin.{Origin}
use Rattle.dac_config.specs.Table.{Table}
use Rattle.dac_state.specs.StateValue.{StateValue}
use Rattle.dac_placement.specs.declared.standing.Standing.TheVariants.{Unclaimed, Lost, Stopped, Barred, Upheld}
use Rattle.dac_placement.specs.declared.verdicts.Verdict.TheVariants.{Halted}
use Rattle.dac_placement.specs.Placement.{holder_of, IsUp, is_up, IsStartedAt, is_started_at, is_allowed_at, key_of, first_choice, standing_at, verdict_by, verdict_of}
use Rattle.dac_placement.specs.laws.Tests.{up_is, started_is}

module _ (table : Table) (s : StateValue) (app : AppId) where
  stopped_by : (n : NodeId) (up started permitted : Bool) → up ≡ true → started ≡ false → cond (not up) Lost (cond (not started) (Stopped n) (cond (not permitted) Barred (Upheld n))) ≡ Stopped n
  stopped_by n up started permitted a b = λ i. cond (not (a i)) Lost (cond (not (b i)) (Stopped n) (cond (not permitted) Barred (Upheld n)))

  pub stopped_stays : (o : Origin) → holder_of s app ≡ Some o → IsUp s o → ¬ IsStartedAt s (key_of app o) → verdict_of table s app ≡ Halted o.node
  stopped_stays o is up stopped =
      ap (λ st. verdict_by table app st (first_choice table s app))
      (ap (λ h. option_map_or (standing_at table s app) h Unclaimed) is
      ∙ stopped_by o.node (is_up s o) (is_started_at s (key_of app o)) (is_allowed_at table s (key_of app o)) ((up_is s o).1 up) (false_from_ne_true (is_started_at s (key_of app o)) (λ t. stopped ((started_is table s app o.node o.inc).0 t))))
