-- The meaning of the weave's faults.
use Rattle.std.specs.Prelude.{List}
use Rattle.dac_config.specs.Table.{Table}
use Rattle.dac_events.specs.declared.WorldEvent.{WorldEvent}
use Rattle.dac_weave.specs.declared.fault.WeaveFault.{WeaveFault}
use Rattle.dac_weave.specs.declared.fault.WeaveFault.TheVariants.{Unwoven, NoMemory}
use Rattle.dac_journal.specs.Journals.{JournalValue}
use Rattle.dac_weave.specs.Woven.{IsUnwoven}
use Rattle.dac_weave.specs.Recording.{IsRecorded}

-- every run stops at this node and record
abbrev pub IsTrueFault : Table → List JournalValue → WeaveFault → Type 0
IsTrueFault t js (Unwoven node place) = IsUnwoven t js node place
IsTrueFault t js NoMemory = Unit {0}

-- no run records the journals
abbrev pub IsRefusal : Table → List JournalValue → WeaveFault → Type 0
IsRefusal t js (Unwoven node place) = (es : List WorldEvent) → IsRecorded t js es → ⊥
IsRefusal t js NoMemory = Unit {0}
