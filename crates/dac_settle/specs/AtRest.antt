-- The meaning of settled for a controller: its ticks claim nothing, at any moment.
use Rattle.std.specs.Prelude.{◌≡◌, ℕ, ◌<◌, List, [], Some, Ok}
use Rattle.dac_base.specs.declared.NodeId.{NodeId}
use Rattle.dac_base.specs.declared.AppId.{AppId}
use Rattle.dac_operations.specs.Operations.{Operation}
use Rattle.dac_config.specs.Table.{Table, app_count}
use Rattle.dac_messages.specs.declared.event.Event.TheVariants.{Tick}
use Rattle.dac_messages.specs.declared.reply.Reply.TheVariants.{Ticked}
use Rattle.dac_model_world.specs.ModelNode.{ModelNode, ModelRunning, joined}
use Rattle.dac_model_world.specs.Step.{model_step}
use Rattle.dac_settle.specs.Settling.{IsSettled}
use Rattle.dac_settle.specs.Rules.{judged}

-- If each application of the configuration is settled by the state of a running node, then a tick that finds its start
-- gate open claims none, whatever the node has noted and however much time has passed.
abbrev pub SettledClaimNothing : Type 0
SettledClaimNothing = (t : Table) (me : NodeId) (d : ModelNode) (r : ModelRunning) (now : ℕ) (ops : List Operation) (passed : List AppId)
    → d.running ≡ Some r → ((app : AppId) → app.0 < app_count t → IsSettled (judged t (joined r.log) app))
    → (model_step t me d (Tick now)).answer ≡ Ok (Ticked ops passed) → ops ≡ []
