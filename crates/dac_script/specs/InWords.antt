-- A line is accepted exactly if it spells the value that is read.
use Rattle.std.specs.Prelude.{◌≡◌, ◌↔◌, ℕ, List}
use Rattle.dac_script.specs.Words.{words_of}
use Rattle.dac_script.specs.Forms.{HasWords, Spells}
use Rattle.dac_script.specs.LineFaults.{HasFault}
use Rattle.dac_script.specs.Script.{IsAcceptedInWords, IsExact}
use Rattle.dac_script.specs.OwnWords.{OnlyCommentsAreSkipped}

-- the words of a line are separated by its spaces
abbrev pub WordsInWords : Type 0
WordsInWords = (words : List (List ℕ)) (line : List ℕ) → (words_of line ≡ words) ↔ HasWords words line

-- words that spell a line have no fault and spell no other line
abbrev pub LinesInWords : Type 0
LinesInWords = IsExact Spells HasFault

-- a line is read as a value exactly if it spells it
abbrev pub AcceptedInWords : Type 0
AcceptedInWords = IsAcceptedInWords Spells HasFault

-- which lines are skipped
abbrev pub CommentsInWords : Type 0
CommentsInWords = OnlyCommentsAreSkipped Spells HasFault
