-- The parts of a state, wherever they are located.
use Rattle.std.specs.Arc.{arc_value}
use Rattle.dac_meaning.specs.StateValue.{StateValue}
use Rattle.dac_state.specs.declared.state.KeptParts.{KeptParts}
use Rattle.dac_state.specs.declared.state.KeptParts.TheVariants.{Here, Shared}

abbrev pub kept_in : KeptParts → StateValue
kept_in (Here parts) = parts
kept_in (Shared parts) = arc_value parts
