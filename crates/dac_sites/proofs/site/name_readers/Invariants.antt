use Rattle.std.proofs.Common.{◌≡◌, ◌+◌, vec_len}
use Rattle.dac_sites.proofs.site.name_readers.Given as goal

abbrev pub invariant-loop-reader : goal.invariant-loop-reader
invariant-loop-reader g l = vec_len l.all + vec_len l.readers ≡ vec_len l.fn.readers

abbrev pub decreases-loop-reader : goal.decreases-loop-reader
decreases-loop-reader g l = vec_len l.readers
