use Rattle.std.proofs.Common.{◌≡◌, length}
use Rattle.dac_wishes.specs.Covering.{let_wishes}
use Rattle.dac_wishes.proofs.covering.let_wishes.Given as goal

-- the result depends on the remaining keys only
abbrev pub invariant-loop-key : goal.invariant-loop-key
invariant-loop-key l = let_wishes l.dot l.start l.over l.left ≡ let_wishes l.dot l.start l.over l.fn.entries

abbrev pub decreases-loop-key : goal.decreases-loop-key
decreases-loop-key l = length l.left
