use Rattle.std.proofs.Common.{◌≡◌, drop, fold}
use Rattle.dac_config.specs.Mark.{mix_byte}
use Rattle.dac_config.proofs.mark.MarkSink.put.Given as goal

abbrev pub invariant-loop-byte : goal.invariant-loop-byte
invariant-loop-byte l = fold mix_byte l.self.value (drop l.byte-index l.bytes) ≡ fold mix_byte l.initial.self.value l.bytes
