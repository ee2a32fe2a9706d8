use Rattle.std.proofs.Common.{◌≡◌, ◌++◌, take}
use Rattle.dac_part_bytes.proofs.Common.{flat_map}
use Rattle.dac_part_bytes.specs.Spelling.{vote_bytes}
use Rattle.dac_part_bytes.proofs.writing.write_votes.Given as goal

abbrev pub invariant-loop-dot : goal.invariant-loop-dot
invariant-loop-dot l = l.written ≡ l.initial.written ++ flat_map (vote_bytes l.version l.truth) (take l.dot-index l.votes)
