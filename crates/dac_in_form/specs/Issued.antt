-- The operations, states and messages of each run are in form, if their counts fit their fields.
use Rattle.std.specs.Prelude.{◌≡◌, ℕ, List, Some, Result}
use Rattle.std.specs.List.{slice_get}
use Rattle.dac_meaning.specs.StateValue.{StateValue}
use Rattle.dac_config.specs.Table.{Table}
use Rattle.dac_bytes.specs.declared.version.Version.TheVariants.{Two}
use Rattle.dac_state.specs.StateForm.{IsInForm}
use Rattle.dac_messages.specs.declared.message.Message.{Message}
use Rattle.dac_messages.specs.declared.reply.Reply.{Reply}
use Rattle.dac_events.specs.declared.WorldEvent.{WorldEvent}
use Rattle.dac_events.specs.declared.world_fault.WorldFault.{WorldFault}
use Rattle.dac_wire.specs.Form.{IsMessage}
use Rattle.dac_model_world.specs.WorldValue.{WorldValue}
use Rattle.dac_model_world.specs.Convergence.{RunsWith}
use Rattle.dac_in_form.specs.InForm.{StateFits, IsSmall, AreInForm}
use Rattle.dac_in_form.specs.HeldForm.{BodyFits}

-- Refusals exclude everything else that bytes can't encode, so that a run needs no premise except about counts and the
-- configuration's limits. (Refused are a node outside the list, an unknown application or node, too many replaced dots,
-- and terms, counters or incarnations that are used up.)
pub record RunIsInForm (t : Table) (events : List WorldEvent) (answers : List (Result Reply WorldFault))
    (v : WorldValue) : Type 0 where
  -- each issued operation is in form
  pub issued : AreInForm t v.operations
  -- each running controller's state is in form, if its counts fit their fields
  pub states : IsSmall t → (n : ℕ) (s : StateValue) → RunsWith v n s → StateFits s → IsInForm Two t s
  -- each shipped message is in form, if the counts of its state fit their fields
  pub shipped : IsSmall t → (k : ℕ) (m : Message) → slice_get v.messages k ≡ Some m → BodyFits m.body → IsMessage Two t m
