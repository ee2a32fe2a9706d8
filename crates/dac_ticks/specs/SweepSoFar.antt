-- The code's unfinished sweep as a sweep.
use Rattle.std.specs.Prelude.{◌≡◌, ℕ, List, [], ◌∷◌, ◌++◌, Option, MatchOption, unwrap_or, if◌then◌else◌}
use Rattle.dac_base.specs.declared.AppId.{AppId}
use Rattle.dac_origins.specs.declared.dot.Origin.{Origin}
use Rattle.dac_meaning.specs.StateValue.{StateValue, join}
use Rattle.dac_meaning.specs.Meaning.{meaning_of}
use Rattle.dac_config.specs.Table.{Table}
use Rattle.dac_decide.specs.declared.waits.Noted.{Noted}
use Rattle.dac_commands.specs.Causes.{terms_used_up}
use Rattle.dac_ticks.specs.Ticks.{Sweep, passing, claim_of, is_mine}
use Rattle.dac_ticks.specs.declared.sweeping.Sweep.{Sweep as Made}
use Rattle.dac_ticks.specs.declared.sweeping.SweepSoFar.{SweepSoFar}
use Rattle.dac_ticks.specs.declared.sweeping.Found.{Found}
use Rattle.dac_ticks.specs.declared.sweeping.Found.TheVariants.{Left, Passed, Claimed}

-- the decision about an application
abbrev pub found_of : Table → Origin → List (Option Noted) → ℕ → StateValue → AppId → Found
found_of t own waits now s app =
    if is_mine t own waits now s app then if terms_used_up s app then Passed else Claimed (claim_of t own s app) (join s (meaning_of (claim_of t own s app ∷ [])))
    else Left

-- the sweep after this decision
abbrev pub added : Sweep → AppId → Found → Sweep
added sweep app Left = sweep
added sweep app Passed = passing sweep app
added sweep app (Claimed o after) = record { ops = sweep.ops ++ o ∷ []; passed = sweep.passed; state = after }

-- the sweep so far, of a tick that began in this state
abbrev pub so_far : StateValue → SweepSoFar → Sweep
so_far first p = record { ops = p.ops.items; passed = p.passed.items; state = unwrap_or p.left first }

-- there is a state exactly when there is a claim
abbrev pub IsSparing : SweepSoFar → Type 0
IsSparing p = MatchOption p.left (p.ops.items ≡ []) (λ after. ¬ (p.ops.items ≡ []))

-- The code's sweep is that of a tick that began in this state. It has a state exactly when it has a claim, and that is
-- the sweep's last state.
pub record IsMade (first : StateValue) (sweep : Sweep) (made : Made) : Type 0 where
  pub ops : made.ops ≡ sweep.ops
  pub passed : made.passed ≡ sweep.passed
  pub left : MatchOption made.left ((sweep.ops ≡ []) × (sweep.state ≡ first))
      (λ after. (after ≡ sweep.state) × ¬ (sweep.ops ≡ []))
