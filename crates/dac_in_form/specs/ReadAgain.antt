-- The bytes of whatever a run issued, holds and shipped are read as that value.
use Rattle.std.specs.Prelude.{◌≡◌, ◌≤◌, ℕ, List, length, Some, Ok, Result}
use Rattle.std.specs.List.{slice_get}
use Rattle.dac_operations.specs.Operations.{Operation}
use Rattle.dac_meaning.specs.StateValue.{StateValue}
use Rattle.dac_meaning.specs.Meaning.{IsOperationOf}
use Rattle.dac_config.specs.Table.{Table}
use Rattle.dac_bytes.specs.declared.version.Version.TheVariants.{Two}
use Rattle.dac_state.specs.StateReading.{state_at}
use Rattle.dac_state.specs.StateSpelling.{spelling_of as state_spelling_of}
use Rattle.dac_messages.specs.declared.message.Message.{Message}
use Rattle.dac_messages.specs.declared.reply.Reply.{Reply}
use Rattle.dac_events.specs.declared.WorldEvent.{WorldEvent}
use Rattle.dac_events.specs.declared.world_fault.WorldFault.{WorldFault}
use Rattle.dac_wire.specs.Decoding.{packet_at}
use Rattle.dac_wire.specs.Spelling.{spelling_of}
use Rattle.dac_wire.specs.declared.packet.Packet.{Packet}
use Rattle.dac_wire.specs.declared.packet.Packet.TheVariants.{Msg, Single}
use Rattle.dac_wire.specs.declared.packet.TheConstants.{MAX_MESSAGE}
use Rattle.dac_model_world.specs.ModelWorld.{RanAs}
use Rattle.dac_model_world.specs.WorldValue.{WorldValue}
use Rattle.dac_model_world.specs.Convergence.{RunsWith}
use Rattle.dac_in_form.specs.InForm.{StateFits}
use Rattle.dac_in_form.specs.HeldForm.{BodyFits}

-- the state's bytes are read as the state
abbrev pub StateIsRead : Table → StateValue → Type 0
StateIsRead t s = state_at Two t (state_spelling_of s) ≡ Ok s

-- the packet's bytes, unless they are too many, are read as the packet
abbrev pub PacketIsRead : Table → Packet → Type 0
PacketIsRead t p = length (spelling_of t p) ≤ MAX_MESSAGE → packet_at t (spelling_of t p) ≡ Ok p

-- After a run, the bytes of each of these are read as the value.
pub record RunIsRead (t : Table) (v : WorldValue) : Type 0 where
  -- each issued operation
  pub issued : (o : Operation) → IsOperationOf o v.operations → PacketIsRead t (Single o)
  -- each running controller's state, if its counts fit their fields
  pub states : (n : ℕ) (s : StateValue) → RunsWith v n s → StateFits s → StateIsRead t s
  -- each shipped message, if the counts of its state fit their fields
  pub shipped : (k : ℕ) (m : Message) → slice_get v.messages k ≡ Some m → BodyFits m.body → PacketIsRead t (Msg m)

-- each run under the configuration is read again
abbrev pub EachRunIsRead : Table → Type 0
EachRunIsRead t = (events : List WorldEvent) (answers : List (Result Reply WorldFault)) (v : WorldValue)
    → RanAs t events answers v → RunIsRead t v
