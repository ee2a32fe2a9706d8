-- Scripts of `sim` or `live`, given which words spell a line and which faults words have.
use Rattle.std.specs.Prelude.{◌≡◌, ◌↔◌, ℕ, ◌-◌, ◌<◌, Bool, true, false, not, List, [], ◌∷◌, All, filter, take, Some, Ok, Result, slice_get, ◌==◌}
use Rattle.std.specs.List.{slice_split, AllZip}
use Rattle.std.specs.Result.{MatchResult}
use Rattle.dac_config.specs.Table.{Table}
use Rattle.dac_script.specs.declared.failure.Failure.{Failure}
use Rattle.dac_script.specs.declared.failure.Failure.TheVariants as failure
use Rattle.dac_script.specs.declared.fault.ScriptFault.{ScriptFault}
use Rattle.dac_script.specs.declared.fault.ScriptFaultKind.{ScriptFaultKind}
use Rattle.dac_script.specs.Words.{words_of}
use Rattle.dac_script.specs.Forms.{HasWords}
use Rattle.dac_script.specs.LineFaults.{IsFaultless, IsLeast}

-- the lines of a text are separated by line feeds
abbrev pub lines_of : List ℕ → List (List ℕ)
lines_of text = slice_split (λ b. b == 10) text

-- neither empty nor a comment
abbrev pub is_said : List ℕ → Bool
is_said [] = false
is_said (b ∷ bs) = not (b == 37)

-- any kind of script, given which words spell a line and which faults words have
module _ {Line : Type 0} (Spells : Table → Line → List (List ℕ) → Type 0)
    (HasFault : Table → List (List ℕ) → ScriptFaultKind → Type 0) where
  -- Words that spell a line have no fault, and spell no other line.
  abbrev pub IsExact : Type 0
  IsExact = (table : Table) (line : Line) (words : List (List ℕ)) → Spells table line words
      → IsFaultless (HasFault table words) × ((other : Line) → Spells table other words → other ≡ line)

  -- The result of parsing words: the line that they spell, or otherwise their least fault.
  pub record IsReading (table : Table) (words : List (List ℕ)) (said : Result Line ScriptFaultKind) : Type 0 where
    pub judged : MatchResult said (λ line. Spells table line words × IsFaultless (HasFault table words)) (IsLeast (HasFault table words))
    pub exact : (line : Line) → Spells table line words → said ≡ Ok line

  -- the words of the line's text spell this line
  abbrev pub IsSpelling : Table → Line → List ℕ → Type 0
  IsSpelling table said line = (words : List (List ℕ)) × HasWords words line × Spells table said words

  -- Any result of parsing a line's words is this value exactly if the line spells it.
  abbrev pub IsAcceptedInWords : Type 0
  IsAcceptedInWords = (table : Table) (said : Line) (line : List ℕ) (read : Result Line ScriptFaultKind)
      → IsReading table (words_of line) read → (read ≡ Ok said) ↔ IsSpelling table said line

  -- why the line with this number isn't read: its least fault, or a failed allocation
  abbrev pub IsLineFailure : Table → ℕ → List ℕ → Failure → Type 0
  IsLineFailure table number line (failure.Input fault) = ⊥
  IsLineFailure table number line (failure.Config fault) = ⊥
  IsLineFailure table number line (failure.Script fault) = (fault.line ≡ number) × IsLeast (HasFault table (words_of line)) fault.kind
  IsLineFailure table number line failure.NoMemory = Unit {0}

  -- the words of this text spell the line
  abbrev pub LineSpells : Table → List ℕ → Line → Type 0
  LineSpells table line said = Spells table said (words_of line)

  -- the lines that aren't skipped have no fault and spell this script, in order
  pub record ReadsAs (table : Table) (lines : List (List ℕ)) (script : List Line) : Type 0 where
    pub said : AllZip (LineSpells table) (filter is_said lines) script
    pub faultless : All (λ line. IsFaultless (HasFault table (words_of line))) (filter is_said lines)

  -- the least fault of the first faulty line; the lines before it are sound
  pub record IsFirstFault (table : Table) (lines : List (List ℕ)) (fault : ScriptFault) : Type 0 where
    pub before : List Line
    pub reads : ReadsAs table (take (fault.line - 1) lines) before
    pub counted : 0 < fault.line
    pub line : List ℕ
    pub stands : slice_get lines (fault.line - 1) ≡ Some line
    pub said : is_said line ≡ true
    pub least : IsLeast (HasFault table (words_of line)) fault.kind

  -- why a script isn't read: its first fault, or a failed allocation
  abbrev pub IsScriptFailure : Table → List (List ℕ) → Failure → Type 0
  IsScriptFailure table lines (failure.Input fault) = ⊥
  IsScriptFailure table lines (failure.Config fault) = ⊥
  IsScriptFailure table lines (failure.Script fault) = IsFirstFault table lines fault
  IsScriptFailure table lines failure.NoMemory = Unit {0}
