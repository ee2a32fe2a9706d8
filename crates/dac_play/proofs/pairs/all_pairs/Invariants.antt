use Rattle.std.proofs.Common.{◌≡◌, take}
use Rattle.dac_play.proofs.Common.{pairs_of}
use Rattle.std.specs.Prelude.{flat_map}
use Rattle.dac_play.proofs.pairs.all_pairs.Given as goal

abbrev pub invariant-loop-from : goal.invariant-loop-from
invariant-loop-from l = l.all.items ≡ flat_map (pairs_of l.nodes) (take l.from-index l.nodes)
