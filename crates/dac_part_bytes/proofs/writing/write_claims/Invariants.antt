use Rattle.std.proofs.Common.{◌≡◌, ◌++◌, take}
use Rattle.dac_part_bytes.proofs.Common.{flat_map, claim_bytes}
use Rattle.dac_part_bytes.proofs.writing.write_claims.Given as goal

abbrev pub invariant-loop-app : goal.invariant-loop-app
invariant-loop-app l = l.written ≡ l.initial.written ++ flat_map (λ e. claim_bytes l.version (e.0, e.1.value)) (take l.app-index l.entries)
