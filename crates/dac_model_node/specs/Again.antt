-- A second tick at the same moment.
use Rattle.std.specs.Prelude.{◌≡◌, ◌⊎◌, ℕ, List, [], Result, Ok, Err, IfSome}
use Rattle.dac_base.specs.declared.NodeId.{NodeId}
use Rattle.dac_base.specs.declared.AppId.{AppId}
use Rattle.dac_operations.specs.Operations.{Operation}
use Rattle.dac_meaning.specs.StateValue.{IsState}
use Rattle.dac_config.specs.Table.{Table}
use Rattle.dac_ticks.specs.Again.{IsAmong}
use Rattle.dac_messages.specs.declared.event.Event.TheVariants.{Tick}
use Rattle.dac_messages.specs.declared.reply.Reply.{Reply}
use Rattle.dac_messages.specs.declared.reply.Reply.TheVariants.{Ticked}
use Rattle.dac_events.specs.declared.refusal.Refusal.{Refusal}
use Rattle.dac_events.specs.declared.refusal.Refusal.TheVariants.{DotsUsedUp}
use Rattle.dac_model_node.specs.ModelNode.{ModelNode, ModelRunning, joined}
use Rattle.dac_model_node.specs.Step.{model_step}

-- the log of a running node joins to a state
abbrev pub HoldsState : ModelNode → Type 0
HoldsState d = IfSome d.running (λ (r : ModelRunning). IsState (joined r.log))

-- The tick claims nothing, and passes over only some of these applications, or it is refused because too few counters
-- are left.
abbrev pub ClaimsNothing : List AppId → Result Reply Refusal → Type 0
ClaimsNothing passed answer = (answer ≡ Err DotsUsedUp)
    ⊎ ((later : List AppId)
    × ((answer ≡ Ok (Ticked [] later)) × ((app : AppId) → IsAmong app later → IsAmong app passed)))

-- After a tick by which a node made its pass, a second one at the same moment claims nothing.
abbrev pub SecondTickClaimsNothing : Type 0
SecondTickClaimsNothing =
    (t : Table) (me : NodeId) (d : ModelNode) (now : ℕ) (ops : List Operation) (passed : List AppId)
    → HoldsState d → (model_step t me d (Tick now)).answer ≡ Ok (Ticked ops passed)
    → ClaimsNothing passed (model_step t me (model_step t me d (Tick now)).node (Tick now)).answer
