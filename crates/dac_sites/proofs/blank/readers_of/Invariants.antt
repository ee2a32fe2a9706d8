use Rattle.std.proofs.Common.{◌≡◌, vec_len}
use Rattle.dac_sites.proofs.blank.readers_of.Given as goal

abbrev pub invariant-loop-number : goal.invariant-loop-number
invariant-loop-number l = vec_len l.all ≡ l._number
