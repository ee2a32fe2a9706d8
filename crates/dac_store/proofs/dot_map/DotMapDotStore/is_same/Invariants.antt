use Rattle.std.proofs.Common.{◌≡◌, length}
use Rattle.dac_store.proofs.dot_map.DotMapDotStore.is_same.Given as goal

-- the result depends on the remaining entries only, which are equally many
abbrev pub invariant-loop-key : goal.invariant-loop-key
invariant-loop-key g l = record { decides : l.mine ≡ l.theirs → l.self ≡ l.other; as_many : length l.mine ≡ length l.theirs }

abbrev pub decreases-loop-key : goal.decreases-loop-key
decreases-loop-key g l = length l.mine
