-- What separates words, which lines a script skips, and where an input is divided: written out in bytes, as a second
-- statement that shares no definition with `HasWords`, `is_said` and `divider`.
use Rattle.std.specs.Prelude.{◌≡◌, ◌≢◌, ◌⊎◌, ◌↔◌, ℕ, ◌<◌, List, [], ◌∷◌, ◌++◌, length, All, codes}
use Rattle.dac_config.specs.Table.{Table}
use Rattle.dac_script.specs.declared.fault.ScriptFaultKind.{ScriptFaultKind}
use Rattle.dac_script.specs.Words.{words_of}
use Rattle.dac_script.specs.Script.{ReadsAs}
use Rattle.dac_script.specs.Input.{IsParted}

-- Only a space, byte 32, separates words. A line without one is a single word, unless it's empty, so that a tab belongs
-- to a word; and no word contains a space.
pub record OnlySpacesSeparate : Type 0 where
  pub none : words_of [] ≡ []
  pub one : (line : List ℕ) → 0 < length line → All (λ b. b ≢ 32) line → words_of line ≡ line ∷ []
  pub more : (before after : List ℕ) → words_of (before ++ 32 ∷ after) ≡ words_of before ++ words_of after

-- any kind of script, given which words spell a line and which faults words have
module _ {Line : Type 0} (Spells : Table → Line → List (List ℕ) → Type 0)
    (HasFault : Table → List (List ℕ) → ScriptFaultKind → Type 0) where
  -- the script begins with what this line spells, and the lines after it read as the rest
  pub record BeginsWith (table : Table) (line : List ℕ) (lines : List (List ℕ)) (script : List Line) : Type 0 where
    pub said : Line
    pub more : List Line
    pub script_is : script ≡ said ∷ more
    pub spelled : Spells table said (words_of line)
    pub rest : ReadsAs Spells HasFault table lines more

  -- A line is skipped exactly if it's empty or begins with `%`, byte 37. A space before `%` begins no comment.
  pub record OnlyCommentsAreSkipped : Type 0 where
    pub empty : (table : Table) (lines : List (List ℕ)) (script : List Line)
        → ReadsAs Spells HasFault table ([] ∷ lines) script ↔ ReadsAs Spells HasFault table lines script
    pub comment : (table : Table) (text : List ℕ) (lines : List (List ℕ)) (script : List Line)
        → ReadsAs Spells HasFault table ((37 ∷ text) ∷ lines) script ↔ ReadsAs Spells HasFault table lines script
    pub other : (table : Table) (b : ℕ) (bs : List ℕ) (lines : List (List ℕ)) (script : List Line) → b ≢ 37
        → ReadsAs Spells HasFault table ((b ∷ bs) ∷ lines) script → BeginsWith table (b ∷ bs) lines script

-- a line begins after these bytes: there are none, or the last is a line feed
abbrev pub EndsLine : List ℕ → Type 0
EndsLine bytes = (bytes ≡ []) ⊎ ((front : List ℕ) × (bytes ≡ front ++ codes "\n"))

-- A line `--` stands between configuration and script. It may end the text, and then the script is empty. The
-- configuration has whole lines, and none of them is `--`.
pub record IsDividedAtFirst (text config script : List ℕ) : Type 0 where
  pub text_is : (text ≡ config ++ (codes "--\n" ++ script)) ⊎ ((text ≡ config ++ codes "--") × (script ≡ []))
  pub whole : EndsLine config
  pub first : (front back : List ℕ) → config ≡ front ++ (codes "--\n" ++ back) → ¬ EndsLine front

-- an input is divided at its first line `--`
abbrev pub DividedInWords : Type 0
DividedInWords = (text config script : List ℕ) → IsParted text config script ↔ IsDividedAtFirst text config script
