use Rattle.std.proofs.Common.{◌≡◌, ◌++◌, take, map, zip}
use Rattle.dac_live.proofs.Common.{found, told_one}
use Rattle.dac_live.proofs.lines.with_answers.Given as goal

abbrev pub invariant-loop-i : goal.invariant-loop-i
invariant-loop-i l = map (λ a. a.now) l.all.items ≡ map (λ a. a.now) l.initial.all.items ++ found (told_one l.node.0 l.caller) (take l.i (zip l.lines l.answers))
