-- Codecs: each field is read from its spelling, and only from it.
use Rattle.std.specs.Prelude.{◌≡◌, ℕ, ◌+◌, ◌<◌, Bool, true, List, ◌++◌, length, Result, Ok, IfOk}
use Rattle.std.proofs.Common.{get_or}
use Rattle.dac_bytes.specs.declared.fault.ReadFault.{ReadFault}
use Rattle.dac_bytes.specs.Reading.{Rest, Field, Gives}

-- each number is a byte
abbrev pub IsBytes : List ℕ → Type 0
IsBytes bytes = (i : ℕ) → get_or bytes i 0 < 256

-- `text` is the front of the bytes, and `end` the rest
pub record Takes (r : Rest) (text : List ℕ) (end : Rest) : Type 0 where
  pub parts : r.bytes ≡ text ++ end.bytes
  pub offset : end.at ≡ r.at + length text
  pub fits : IsBytes end.bytes

-- A value that `read` returns is spelled by the bytes it took, and satisfies `Is`.
abbrev pub TakesAs : {X : Type 0} → (Rest → Field X) → (X → List ℕ) → (X → Type 0) → Type 0
TakesAs {X =
    X} read text Is = (r : Rest) (x : X × Rest) → IsBytes r.bytes → read r ≡ Ok x → Takes r (text x.0) x.1 × Is x.0

-- Wherever `text` is, `read` returns x from it and leaves the bytes after it.
abbrev pub Again : {X : Type 0} → (Rest → Field X) → List ℕ → X → Type 0
Again read text x = (at : ℕ) (rest : List ℕ)
    → read (record { at = at; bytes = text ++ rest }) ≡ Ok (x, record { at = at + length text; bytes = rest })

-- A codec: a value that is read has these bytes as its spelling and satisfies `Is`, and each such value is read from
-- its spelling, wherever it is.
pub record IsCodec {X : Type 0} (read : Rest → Field X) (text : X → List ℕ) (Is : X → Type 0) : Type 0 where
  pub takes : TakesAs read text Is
  pub again : (x : X) → Is x → Again read (text x) x

-- the values of a form that pass a test
abbrev pub Passes : {X : Type 0} → (X → Type 0) → (X → Bool) → X → Type 0
Passes Is good x = Is x × (good x ≡ true)

-- The value that a call read from r, seen by `view`, is spelled by the bytes it took, and satisfies `Is`.
abbrev pub IsFoundAs : {X Y : Type 0} → (X → Y × Rest) → (Y → List ℕ) → (Y → Type 0) → Rest → Result X ReadFault
    → Type 0
IsFoundAs view text Is r result =
    IsBytes r.bytes → IfOk result (λ x. Takes r (text (view x).0) (view x).1 × Is (view x).0)

-- A call returns, seen by `view`, each y that satisfies `Is` and whose spelling is the front of r, unless memory runs
-- out.
abbrev pub IsReadAgain : {X Y : Type 0} → (X → Y × Rest) → (Y → List ℕ) → (Y → Type 0) → Rest → Result X ReadFault
    → Type 0
IsReadAgain {Y = Y} view text Is r result =
    (y : Y) (rest : List ℕ) → Is y → r.bytes ≡ text y ++ rest → Gives view result (Ok (y, record { at = r.at + length (text y); bytes = rest }))
