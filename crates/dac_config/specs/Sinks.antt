-- Destinations of a text that is written in pieces.
use Rattle.std.specs.Prelude.{◌≡◌, ℕ, false, List, ◌++◌}
use Rattle.std.specs.Global.{Vec}
use Rattle.dac_config.specs.declared.sink.Text.{Text}

-- the sink holds its previous text with these bytes appended
pub record Gains {S : Type 0} (holds : S → List ℕ → Type 0) (old new : S) (bytes : List ℕ) : Type 0 where
  pub held : (text : List ℕ) → holds old text → holds new (text ++ bytes)

-- the sink contains this text, unless memory ran out
abbrev pub IsWritten : Text → List ℕ → Type 0
IsWritten written text = written.is_short ≡ false → written.bytes.items ≡ text

-- these bytes are the text that was written
abbrev pub HasText : Text → Vec ℕ → Type 0
HasText written bytes = (text : List ℕ) → IsWritten written text → bytes.items ≡ text
