-- A worked run of the model world whose counts fit their fields: a node boots, and ships its whole state to another.
use Rattle.std.specs.Prelude.{◌≡◌, List, [], ◌∷◌, Some, Result}
use Rattle.std.specs.List.{slice_get}
use Rattle.dac_meaning.specs.StateValue.{StateValue}
use Rattle.dac_messages.specs.declared.message.Message.{Message}
use Rattle.dac_messages.specs.declared.reply.Reply.{Reply}
use Rattle.dac_events.specs.declared.WorldEvent.{WorldEvent}
use Rattle.dac_events.specs.declared.What.TheVariants.{Boot, Ship}
use Rattle.dac_events.specs.declared.world_fault.WorldFault.{WorldFault}
use Rattle.dac_model_world.specs.ModelWorld.{RanAs}
use Rattle.dac_model_world.specs.WorldValue.{WorldValue}
use Rattle.dac_model_world.specs.Convergence.{RunsWith}
use Rattle.dac_in_form.specs.InForm.{StateFits}
use Rattle.dac_in_form.specs.HeldForm.{BodyFits}
use Rattle.dac_in_form.specs.WorkedState.{first_origin, second_origin, worked_table}

-- the first node boots, and ships to the second
abbrev pub boot_and_ship : List WorldEvent
boot_and_ship =
    (record { node = first_origin.node; what = Boot 0 }) ∷ (record { node = first_origin.node; what = Ship second_origin.node }) ∷ []

-- The premises of `RunIsInForm` can be met: these events have these results and lead to this world, in which the first
-- node runs with a state whose counts fit, and so do those of the message that it shipped.
pub record RunsCanFit : Type 0 where
  pub answers : List (Result Reply WorldFault)
  pub world : WorldValue
  pub ran : RanAs worked_table boot_and_ship answers world
  pub state : StateValue
  pub holds : RunsWith world 0 state
  pub state_fits : StateFits state
  pub message : Message
  pub shipped : slice_get world.messages 0 ≡ Some message
  pub body_fits : BodyFits message.body
