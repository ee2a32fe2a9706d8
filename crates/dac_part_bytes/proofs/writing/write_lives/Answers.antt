use Rattle.dac_part_bytes.proofs.Common.{u8_bytes, life_bytes, lives_bytes}
use Rattle.dac_part_bytes.proofs.Kept.{written_in_order}
use Rattle.dac_part_bytes.proofs.writing.write_lives.Goals as goal

pub returns : goal.returns
unfolding lives_bytes
returns c = written_in_order u8_bytes (life_bytes c.args.version) c.entries-entries.result.now _ _ c.args.writer c.in_ok-written.written c.loop-node.written c.entries-entries.ensures c.in_ok-written.ensures c.loop-node-test.false c.loop-node.invariant
