use Rattle.std.proofs.Common.{◌≡◌, ℕ, ◌<◌, get_or, bit_and}
use Rattle.dac_dots.proofs.filter.DotFilter.meets.Given as goal

-- if no bit is set in both so far, the filters are apart in the words so far
abbrev pub invariant-loop-word : goal.invariant-loop-word
invariant-loop-word l = l.both ≡ 0 → (j : ℕ) → j < l.word → bit_and (get_or l.self.slots j 0) (get_or l.other.slots j 0) ≡ 0
