-- A second tick at the same moment.
use Rattle.std.proofs.Common.{◌≡◌, ◌⊎◌, ℕ, List, [], ◌∷◌}
use Rattle.dac_base.specs.declared.AppId.{AppId}
use Rattle.dac_origins.specs.declared.dot.Origin.{Origin}
use Rattle.dac_config.specs.Table.{Table}
use Rattle.dac_chains.specs.Lives.{IsLive}
use Rattle.dac_meaning.specs.StateValue.{StateValue, IsState}
use Rattle.dac_decide.specs.FailoverWait.{Note, waits_of}
use Rattle.dac_ticks.specs.Ticks.{Sweep, sweep_of}

-- the list contains the application
abbrev pub IsAmong : AppId → List AppId → Type 0
IsAmong app [] = ⊥
IsAmong app (a ∷ apps) = (a ≡ app) ⊎ IsAmong app apps

-- the notes after a tick in this state
abbrev pub noting : StateValue → ℕ → List Note → List Note
noting s now notes = record { state = s; moment = now } ∷ notes

-- the sweep of a tick, which notes before it claims
abbrev pub tick_of : Table → Origin → List Note → ℕ → StateValue → Sweep
tick_of t own notes now s = sweep_of t own (waits_of t (noting s now notes)) now s

-- If the incarnation is the live one of its node, a second tick at the same moment claims nothing and leaves the state
-- unchanged. It passes over only applications that the first passed over, possibly fewer, because a claim of the first
-- can make another node the better choice.
abbrev pub SecondTickClaimsNothing : Type 0
SecondTickClaimsNothing = (t : Table) (own : Origin) (notes : List Note) (now : ℕ) (s : StateValue) → IsState s
    → IsLive s.lives own.node own.inc
    → let first = tick_of t own notes now s in
    let second = tick_of t own (noting s now notes) now first.state in
    (second.ops ≡ []) × ((second.state ≡ first.state) × ((app : AppId) → IsAmong app second.passed → IsAmong app first.passed))
