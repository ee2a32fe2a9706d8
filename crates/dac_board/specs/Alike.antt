-- Lists of entries by key that agree at each key of an application and a node.
use Rattle.std.specs.Prelude.{◌≡◌, ℕ, List, Option, None}
use Rattle.std.specs.FinMap.{find}
use Rattle.dac_wishes.specs.declared.key.Key.{Key}
use Rattle.dac_wishes.specs.Keys.{key_cmp}
use Rattle.dac_board.specs.Marks.{place_of}

-- both lists have the same entry at each key of the application and the node of these numbers
abbrev pub IsSameOf : {X : Type 0} → ℕ × ℕ → List (Key × X) → List (Key × X) → Type 0
IsSameOf k old new = (key : Key) → place_of key ≡ k → find key_cmp key old ≡ find key_cmp key new

-- a key of these numbers has no entry
abbrev pub IsAbsent : {X : Type 0} → ℕ × ℕ → Key → Option X → Type 0
IsAbsent k key v = place_of key ≡ k → v ≡ None
