-- The letters sent are those received, followed by those in the channel. At most one pass permits sending, and it
-- carries the list of the letters sent. At most one permits receiving, and carries the list of those received.
use Rattle.std.specs.Prelude.{◌≡◌, ℕ, Bool, true, List, Option, ◌++◌}
use mathlib.Core.Option.{some}
use lib.ListN.{get_elem?}
use Rattle.dac_links.specs.declared.rule.Log.{Log}

-- a letter: its bytes, or nothing for the end letter
abbrev pub LetterValue : Type 0
LetterValue = Option (List ℕ)

abbrev pub log : Bool → Bool → List LetterValue → List LetterValue → Log
log a b put taken = record { puts = a; takes = b; put = put; taken = taken }

abbrev pub RelayFits : ℕ → ℕ → List LetterValue → List LetterValue → ℕ → Log → Type 0
RelayFits writer reader put taken port v =
    (v.puts ≡ true → (port ≡ writer) × (v.put ≡ put)) × (v.takes ≡ true → (port ≡ reader) × (v.taken ≡ taken))

abbrev pub Relayed : List LetterValue → List Log → Type 0
Relayed items views =
    (writer : ℕ) × (reader : ℕ) × (put : List LetterValue) × (taken : List LetterValue) × (put ≡ taken ++ items)
    × ((port : ℕ) (v : Log) → get_elem? views port ≡ some v → RelayFits writer reader put taken port v)

-- the second list is a prefix of the first
abbrev pub StartsWith : List LetterValue → List LetterValue → Type 0
StartsWith all first = (rest : List LetterValue) × (all ≡ first ++ rest)
