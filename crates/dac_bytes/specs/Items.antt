-- Sequences of items, each read given the previous one, and the invariant of a loop that reads them.
use Rattle.std.specs.Prelude.{◌+◌, List, [], ◌∷◌, ◌++◌, Ok}
use Rattle.dac_bytes.specs.Reading.{Field, ◌>>=◌}

-- P holds of each item, given the state after the previous one
abbrev pub Chain : {S X : Type 0} → (S → X → Type 0) → (X → S) → S → List X → Type 0
Chain P next s [] = Unit {0}
Chain P next s (x ∷ xs) = P s x × Chain P next (next x) xs

-- the items read before, followed by those read now
abbrev pub with_front : {X : Type 0} → List X → Field (List X) → Field (List X)
with_front front read = read >>= λ x. Ok (front ++ x.0, x.1)
