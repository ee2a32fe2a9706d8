-- Aligned blocks of deltas: 2^level of them, at most 256, with a first number that is a multiple of 2^level. (Joining
-- intervals by blocks is this project's own design.)
use Rattle.std.specs.Prelude.{◌≡◌, ℕ, ◌+◌, ◌-◌, ◌%◌, ◌≤◌, ◌^◌, List, [], ◌∷◌}
use Rattle.dac_deltas.specs.declared.blocks.TheConstants.{MOST_LEVEL}

-- the longest aligned block that begins or ends at the number and has at most `most` deltas has 2^level of them
pub record IsLongest (number most level : ℕ) : Type 0 where
  pub small : level ≤ MOST_LEVEL
  pub aligned : number % 2 ^ level ≡ 0
  pub fits : 2 ^ level ≤ most
  pub longest : (k : ℕ) → k ≤ MOST_LEVEL → number % 2 ^ k ≡ 0 → 2 ^ k ≤ most → k ≤ level

-- b, as its first number and the one after its last, is the longest block that begins at a and ends by the count
abbrev pub IsLongestBlock : ℕ → ℕ → ℕ × ℕ → Type 0
IsLongestBlock a count b = (level : ℕ) × IsLongest a (count - a) level × (b ≡ (a, a + 2 ^ level))

-- the blocks from a to the count, each the longest that begins there and ends by the count
abbrev pub AreBlocks : ℕ → ℕ → List (ℕ × ℕ) → Type 0
AreBlocks a count [] = a ≡ count
AreBlocks a count (b ∷ bs) = IsLongestBlock a count b × AreBlocks b.1 count bs
