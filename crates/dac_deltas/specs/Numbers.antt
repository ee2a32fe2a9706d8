-- The greatest number that each origin acknowledged.
use Rattle.std.specs.Prelude.{◌≡◌, ◌≤◌, ◌⊎◌, ℕ, List, [], ◌∷◌, Option, Some, None, max}
use Rattle.std.specs.FinMap as map
use Rattle.dac_origins.specs.declared.dot.Origin.{Origin}
use Rattle.dac_origins.specs.Dots.{origin_cmp}

-- a number for each of some origins
abbrev pub Numbers : Type 0
Numbers = map.FinMap origin_cmp ℕ

-- the greater of the number and the previous one, if any
abbrev pub greater : Option ℕ → ℕ → ℕ
greater None n = n
greater (Some before) n = max before n

-- the table after the origin acknowledged the number
abbrev pub raised : Numbers → Origin → ℕ → Numbers
raised m origin n = map.insert m origin (greater (map.get m origin) n)

-- ---- the table, in terms of all acknowledgements
-- the origin acknowledged the number, according to the list of all acknowledgements
abbrev pub HasAcknowledged : List (Origin × ℕ) → Origin → ℕ → Type 0
HasAcknowledged [] origin n = ⊥
HasAcknowledged (r ∷ rs) origin n = ((r.0 ≡ origin) × (r.1 ≡ n)) ⊎ HasAcknowledged rs origin n

-- the greatest number that satisfies P, or None if none does
abbrev pub IsGreatest : (ℕ → Type 0) → Option ℕ → Type 0
IsGreatest P None = (n : ℕ) → ¬ (P n)
IsGreatest P (Some g) = P g × ((n : ℕ) → P n → n ≤ g)

-- each origin with the greatest number that it acknowledged
abbrev pub AreGreatestNumbers : List (Origin × ℕ) → Numbers → Type 0
AreGreatestNumbers rs m = (origin : Origin) → IsGreatest (HasAcknowledged rs origin) (map.get m origin)

-- the empty table is right for no acknowledgements
abbrev pub NothingIsGreatest : Type 0
NothingIsGreatest = AreGreatestNumbers [] map.empty

-- `raised` is right for one more acknowledgement
abbrev pub RaisesAcknowledge : Type 0
RaisesAcknowledge = (rs : List (Origin × ℕ)) (m : Numbers) (origin : Origin) (n : ℕ) → AreGreatestNumbers rs m
    → AreGreatestNumbers ((origin, n) ∷ rs) (raised m origin n)
