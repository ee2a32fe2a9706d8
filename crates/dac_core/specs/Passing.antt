-- An event of the world without its reply.
use Rattle.std.specs.Prelude.{◌≡◌, Result, Ok, Err, IsOk}
use Rattle.dac_config.specs.Table.{Table}
use Rattle.dac_events.specs.declared.WorldEvent.{WorldEvent}
use Rattle.dac_events.specs.declared.world_fault.WorldFault.{WorldFault}
use Rattle.dac_messages.specs.declared.reply.Reply.{Reply}
use Rattle.dac_settle.specs.dac_model_world.WorldValue.{WorldValue}
use Rattle.dac_settle.specs.dac_model_world.ModelWorld.{Follows, happens}

-- The second result has the fault of the first one. If it has none, the first one is a reply.
abbrev pub TellsFault : {X : Type 0} → Result Reply WorldFault → Result X WorldFault → Type 0
TellsFault answer (Ok x) = IsOk answer
TellsFault answer (Err fault) = answer ≡ Err fault

-- From `old` the program's world moves to `new` with a result, as each model world that shows as `old` can. Only the fault
-- of the result is returned.
pub record Passes {X : Type 0} (t : Table) (old : WorldValue) (event : WorldEvent) (told : Result X WorldFault)
    (new : WorldValue) : Type 0 where
  pub answer : Result Reply WorldFault
  pub tells : TellsFault answer told
  pub follows : Follows t old (λ w. happens t w event) answer new
