-- Loose parts of a file. They tolerate an empty list or tuple of nodes, a number that is too large, and a string in place
-- of a section, each unless the kind of its fault is kept.
use Rattle.std.specs.Prelude.{◌≡◌, ◌⊎◌, ℕ, ◌≤◌, false, List, [], ◌∷◌}
use Rattle.dac_tokens.specs.declared.fault.FaultKind.{FaultKind}
use Rattle.dac_tokens.specs.declared.fault.FaultKind.TheVariants.{Unsupported, EmptyList, EmptyTuple, NumberTooLarge}
use Rattle.dac_tokens.specs.declared.token.Symbol.TheVariants.{OpenList, CloseList, OpenTuple, CloseTuple}
use Rattle.dac_tokens.specs.Digits.{value_from}
use Rattle.dac_tokens.specs.Words.{Word, Punctuation, Number, Text}
use Rattle.dac_shapes.specs.Written.{Section, ms_bound}
use Rattle.dac_shapes.specs.Grammar.{Parted, between, IsItem, IsMs, IsOtherSection, Parts, IsFileOf}

module _ (Kept : FaultKind → Type 0) where
  abbrev pub Passes : FaultKind → Type 0
  Passes kind = Kept kind → ⊥

  abbrev pub IsLooseItem : List Word → List (List ℕ) → Type 0
  IsLooseItem words group =
      IsItem words group ⊎ (Passes EmptyTuple × (words ≡ Punctuation OpenTuple ∷ Punctuation CloseTuple ∷ []) × (group ≡ []))

  abbrev pub IsLooseNodeList : List Word → List (List (List ℕ)) → Type 0
  IsLooseNodeList words groups =
      ((inner : List Word) × (words ≡ between OpenList inner CloseList) × Parted IsLooseItem inner groups)
      ⊎ (Passes EmptyList × (words ≡ Punctuation OpenList ∷ Punctuation CloseList ∷ []) × (groups ≡ []))

  abbrev pub IsLooseMs : Word → ℕ → Type 0
  IsLooseMs word n =
      IsMs word n
      ⊎ (Passes NumberTooLarge × (digits : List ℕ) × (word ≡ Number false digits) × (n ≡ value_from 0 digits) × (ms_bound ≤ n))

  abbrev pub IsLooseOther : List Word → Type 0
  IsLooseOther words = IsOtherSection words ⊎ (Passes Unsupported × (words ≡ Text ∷ []))

  abbrev pub loose : Parts
  loose = record { IsNodes = IsLooseNodeList; IsNumber = IsLooseMs; IsIgnored = IsLooseOther }

  -- a file with loose parts
  abbrev pub IsLooseFile : List Word → List Section → Type 0
  IsLooseFile words sections = IsFileOf loose words sections
