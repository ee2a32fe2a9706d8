use Rattle.std.proofs.Common.{fold, sym, ◌∙◌}
use Rattle.std.proofs.lemmas.List.{at_drop_more}
use Rattle.dac_config.specs.Mark.{mix_byte}
use Rattle.dac_config.proofs.mark.MarkSink.put.Goals as goal

pub loop-byte-preserved : goal.loop-byte-preserved
loop-byte-preserved c =
    rw c.mix_byte-self.ensures (sym (at_drop_more (fold mix_byte c.loop-byte.self.value) c.args.bytes.now c.loop-byte.byte-index 0 c.loop-byte-test.true) ∙ c.loop-byte.invariant)
