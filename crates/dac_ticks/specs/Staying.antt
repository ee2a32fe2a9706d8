-- Claimed applications stay with their claimer.
use Rattle.std.specs.Prelude.{◌≡◌, ℕ, ◌<◌, List, Option, Some}
use Rattle.std.specs.FinMap as map
use Rattle.dac_base.specs.declared.NodeId.{NodeId}
use Rattle.dac_base.specs.declared.AppId.{AppId}
use Rattle.dac_origins.specs.declared.dot.Origin.{Origin}
use Rattle.dac_chains.specs.declared.claims.How.{How}
use Rattle.dac_chains.specs.declared.claims.Claim.{Claim as ClaimValue}
use Rattle.dac_chains.specs.Lives.{IsLive}
use Rattle.dac_operations.specs.declared.act.Act.TheVariants.{Claim}
use Rattle.dac_operations.specs.Operations.{Operation}
use Rattle.dac_meaning.specs.StateValue.{StateValue, IsState}
use Rattle.dac_meaning.specs.Meaning.{IsOperationOf}
use Rattle.dac_config.specs.Table.{Table}
use Rattle.dac_placement.specs.declared.verdicts.Verdict.TheVariants.{Kept}
use Rattle.dac_placement.specs.Placement.{IsVerdict, RunsAt}
use Rattle.dac_decide.specs.declared.waits.Noted.{Noted}
use Rattle.dac_ticks.specs.Ticks.{sweep_from, sweep_over}

-- the operation claims the application
abbrev pub ClaimsApp : AppId → Operation → Type 0
ClaimsApp app o = (term : ℕ) × (how : How) × (from : Option NodeId) × (o.act ≡ Claim app term how from)

-- the application is kept at the node, and runs there
pub record IsKeptAt (t : Table) (s : StateValue) (app : AppId) (node : NodeId) : Type 0 where
  pub verdict : IsVerdict t s app (Kept node)
  pub runs : RunsAt t s app node

-- each application that one of the operations claims is kept at the node
abbrev pub AreKeptAt : Table → StateValue → NodeId → List Operation → Type 0
AreKeptAt t s node os = (o : Operation) (app : AppId) → IsOperationOf o os → ClaimsApp app o → IsKeptAt t s app node

-- Each claim among the operations is under a later term than any claim of its application in the state.
abbrev pub AreLaterClaims : StateValue → List Operation → Type 0
AreLaterClaims s os = (o : Operation) (app : AppId) → IsOperationOf o os → (term : ℕ) (how : How) (from : Option NodeId)
    → o.act ≡ Claim app term how from
    → (claim : ClaimValue) → map.get s.claims app ≡ Some claim → claim.term < term

-- The claims of a pass over some applications are later claims. A tick passes over all applications of the
-- configuration.
abbrev pub ClaimsAreLater : Type 0
ClaimsAreLater = (t : Table) (own : Origin) (waits : List (Option Noted)) (now : ℕ) (s : StateValue) (apps : List AppId)
    → IsState s → AreLaterClaims s (sweep_over t own waits now (sweep_from s) apps).ops

-- The applications that a live incarnation claims in a pass over some applications are kept at its node, in the state
-- after all these claims. This covers a whole tick, and each claim alone.
abbrev pub ClaimsStay : Type 0
ClaimsStay = (t : Table) (own : Origin) (waits : List (Option Noted)) (now : ℕ) (s : StateValue) (apps : List AppId)
    → IsState s → IsLive s.lives own.node own.inc
    → let sweep = sweep_over t own waits now (sweep_from s) apps in AreKeptAt t sweep.state own.node sweep.ops
