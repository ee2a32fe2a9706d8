-- States that controllers hold and messages that they ship in a run are in form, if the issued operations are.
use Rattle.std.specs.Prelude.{◌≡◌, ℕ, List, Some, Result}
use Rattle.std.specs.List.{slice_get}
use Rattle.dac_meaning.specs.StateValue.{StateValue}
use Rattle.dac_config.specs.Table.{Table}
use Rattle.dac_bytes.specs.declared.version.Version.TheVariants.{Two}
use Rattle.dac_state.specs.StateForm.{IsInForm}
use Rattle.dac_messages.specs.declared.message.Body.{Body}
use Rattle.dac_messages.specs.declared.message.Body.TheVariants.{Whole, Interval, Nothing}
use Rattle.dac_messages.specs.declared.message.Message.{Message}
use Rattle.dac_messages.specs.declared.reply.Reply.{Reply}
use Rattle.dac_events.specs.declared.WorldEvent.{WorldEvent}
use Rattle.dac_events.specs.declared.world_fault.WorldFault.{WorldFault}
use Rattle.dac_wire.specs.Form.{IsBodyInForm}
use Rattle.dac_model_world.specs.WorldValue.{WorldValue}
use Rattle.dac_model_world.specs.Convergence.{RunsWith}
use Rattle.dac_in_form.specs.InForm.{StateFits, IsSmall, AreInForm}

-- the counts of the state that the body carries, if any, fit their fields
abbrev pub BodyFits : Body → Type 0
BodyFits (Whole s) = StateFits s
BodyFits (Interval s) = StateFits s
BodyFits Nothing = Unit {0}

-- If the configuration keeps its limits and the issued operations are in form, so is each running controller's state,
-- and the state that each shipped message carries, if its counts fit their fields.
pub record HeldAreInForm (t : Table) (events : List WorldEvent) (answers : List (Result Reply WorldFault))
    (v : WorldValue) : Type 0 where
  pub states : IsSmall t → AreInForm t v.operations → (n : ℕ) (s : StateValue) → RunsWith v n s → StateFits s
      → IsInForm Two t s
  pub bodies : IsSmall t → AreInForm t v.operations → (k : ℕ) (m : Message) → slice_get v.messages k ≡ Some m
      → BodyFits m.body → IsBodyInForm Two t m.body
