-- The claims of a tick, which takes the applications of the configuration in the order of its file, each in the state
-- that the earlier claims left. (OTP starts, restarts and moves distributed applications as soon as nodes come and go.
-- That a controller does so at its ticks is this project's own rule.)
use Rattle.std.specs.Prelude.{ℕ, Bool, false, ◌&&◌, ◌==◌, List, [], ◌∷◌, ◌++◌, Option, None, fold, if◌then◌else◌}
use Rattle.std.specs.Option.{option_map, option_map_or}
use Rattle.dac_base.specs.declared.NodeId.{NodeId}
use Rattle.dac_base.specs.declared.AppId.{AppId}
use Rattle.dac_origins.specs.declared.dot.Origin.{Origin}
use Rattle.dac_chains.specs.declared.claims.How.TheVariants.{Normal, Failover as FailedOver, Takeover as TakenOver}
use Rattle.dac_operations.specs.declared.act.Act.{Act}
use Rattle.dac_operations.specs.Operations.{Operation}
use Rattle.dac_meaning.specs.StateValue.{StateValue, join}
use Rattle.dac_meaning.specs.Meaning.{meaning_of}
use Rattle.dac_config.specs.Table.{Table}
use Rattle.dac_placement.specs.declared.verdicts.Verdict.{Verdict}
use Rattle.dac_placement.specs.declared.verdicts.Verdict.TheVariants.{Failover, Takeover}
use Rattle.dac_placement.specs.Placement.{apps_of, candidate_of, holder_of, verdict_of}
use Rattle.dac_decide.specs.declared.waits.Noted.{Noted}
use Rattle.dac_decide.specs.FailoverWait.{noted_at, is_due_by}
use Rattle.dac_commands.specs.Commands.{claim_act, next_operation}
use Rattle.dac_commands.specs.Causes.{terms_used_up}

-- the node of the application's greatest claim
abbrev pub held_by : StateValue → AppId → Option NodeId
held_by s app = option_map (λ (o : Origin). o.node) (holder_of s app)

-- The claim by this verdict. A failover or takeover is claimed as such, from the node that held the application, and
-- any other as normal
abbrev pub claimed_by : StateValue → AppId → Verdict → Act
claimed_by s app (Failover n) = claim_act s app FailedOver (held_by s app)
claimed_by s app (Takeover n) = claim_act s app TakenOver (held_by s app)
claimed_by s app _ = claim_act s app Normal None

-- the operation that claims the application
abbrev pub claim_of : Table → Origin → StateValue → AppId → Operation
claim_of t own s app = next_operation s own (claimed_by s app (verdict_of t s app))

-- the verdict's candidate is the incarnation's node, and the verdict is due by these waits
abbrev pub is_mine_by : Table → Origin → List (Option Noted) → ℕ → StateValue → AppId → Verdict → Bool
is_mine_by t own waits now s app verdict = option_map_or (λ (n : NodeId). n.0 == own.node.0) (candidate_of verdict)
    false && is_due_by t (noted_at waits app) s app now verdict

-- the application is the incarnation's to claim now
abbrev pub is_mine : Table → Origin → List (Option Noted) → ℕ → StateValue → AppId → Bool
is_mine t own waits now s app = is_mine_by t own waits now s app (verdict_of t s app)

-- A sweep: a node's pass over its applications at one tick. So far it issued these claims, passed over these
-- applications because their terms are used up, and reached this state
pub record Sweep : Type 0 where
  pub ops : List Operation
  pub passed : List AppId
  pub state : StateValue

-- a sweep before its first application
abbrev pub sweep_from : StateValue → Sweep
sweep_from s = record { ops = []; passed = []; state = s }

abbrev pub passing : Sweep → AppId → Sweep
passing sweep app = record { ops = sweep.ops; passed = sweep.passed ++ app ∷ []; state = sweep.state }

abbrev pub claiming : Sweep → Operation → Sweep
claiming sweep o =
    record { ops = sweep.ops ++ o ∷ []; passed = sweep.passed; state = join sweep.state (meaning_of (o ∷ [])) }

-- a sweep after one more application
abbrev pub swept : Table → Origin → List (Option Noted) → ℕ → Sweep → AppId → Sweep
swept t own waits now sweep app =
    if is_mine t own waits now sweep.state app then if terms_used_up sweep.state app then passing sweep app else claiming sweep (claim_of t own sweep.state app)
    else sweep

-- a sweep after these applications
abbrev pub sweep_over : Table → Origin → List (Option Noted) → ℕ → Sweep → List AppId → Sweep
sweep_over t own waits now sweep apps = fold (swept t own waits now) sweep apps

-- the sweep of a tick: a pass over all applications of the configuration, with these waits
abbrev pub sweep_of : Table → Origin → List (Option Noted) → ℕ → StateValue → Sweep
sweep_of t own waits now s = sweep_over t own waits now (sweep_from s) (apps_of t)
