-- A line of `live` is accepted exactly if it spells the value that is read.
use Rattle.dac_script.specs.LiveFaults.{HasFault}
use Rattle.dac_script.specs.LiveForms.{SpellsLive}
use Rattle.dac_script.specs.Script.{IsAcceptedInWords, IsExact}
use Rattle.dac_script.specs.OwnWords.{OnlyCommentsAreSkipped}

-- words that spell a line have no fault and spell no other line
abbrev pub LiveLinesInWords : Type 0
LiveLinesInWords = IsExact SpellsLive HasFault

-- a line is read as a value exactly if it spells it
abbrev pub LiveAcceptedInWords : Type 0
LiveAcceptedInWords = IsAcceptedInWords SpellsLive HasFault

-- which lines are skipped
abbrev pub LiveCommentsInWords : Type 0
LiveCommentsInWords = OnlyCommentsAreSkipped SpellsLive HasFault
