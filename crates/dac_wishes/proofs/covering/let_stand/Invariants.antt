use Rattle.std.proofs.Common.{◌≡◌, length}
use Rattle.dac_wishes.specs.Covering.{let_stand}
use Rattle.dac_wishes.proofs.covering.let_stand.Given as goal

-- the result depends on the remaining keys only
abbrev pub invariant-loop-key : goal.invariant-loop-key
invariant-loop-key g l = let_stand g.K.Ord.cmp l.dot l.vote l.over l.left ≡ let_stand g.K.Ord.cmp l.dot l.vote l.over l.fn.entries

abbrev pub decreases-loop-key : goal.decreases-loop-key
decreases-loop-key g l = length l.left
