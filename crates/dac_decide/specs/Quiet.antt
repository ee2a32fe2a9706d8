-- Notes of lost claims that change nothing.
use Rattle.std.specs.Prelude.{◌≡◌, ◌<◌, List, Option, None}
use Rattle.dac_base.specs.declared.AppId.{AppId}
use Rattle.dac_config.specs.Table.{Table, app_count}
use Rattle.dac_placement.specs.StateValue.{StateValue}
use Rattle.dac_decide.specs.declared.waits.Noted.{Noted}
use Rattle.dac_decide.specs.FailoverWait.{noted_at, lost_in}

-- the application has no timer, and its greatest claim isn't lost
pub record IsQuiet (waits : List (Option Noted)) (s : StateValue) (app : AppId) : Type 0 where
  pub noted : noted_at waits app ≡ None
  pub lost : lost_in s app ≡ None

-- `IsQuiet` for each application of the configuration
abbrev pub AreQuiet : Table → List (Option Noted) → StateValue → Type 0
AreQuiet table waits s = (app : AppId) → app.0 < app_count table → IsQuiet waits s app
