use Rattle.std.proofs.Common.{◌≡◌, ◌++◌, take}
use Rattle.dac_play.proofs.Common.{pairs_of}
use Rattle.dac_play.proofs.pairs.push_pairs.Given as goal

abbrev pub invariant-loop-to : goal.invariant-loop-to
invariant-loop-to l = l.pairs.items ≡ l.fn.pairs.items ++ pairs_of (take l.to-index l.nodes) l.from
