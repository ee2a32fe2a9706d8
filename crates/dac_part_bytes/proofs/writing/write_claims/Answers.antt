use Rattle.dac_part_bytes.proofs.Common.{u16_bytes, claim_bytes, claims_bytes}
use Rattle.dac_part_bytes.proofs.Kept.{written_in_order}
use Rattle.dac_part_bytes.proofs.writing.write_claims.Goals as goal

pub returns : goal.returns
unfolding claims_bytes
returns c = written_in_order u16_bytes (claim_bytes c.args.version) c.entries-entries.result.now _ _ c.args.writer c.in_ok-written.written c.loop-app.written c.entries-entries.ensures c.in_ok-written.ensures c.loop-app-test.false c.loop-app.invariant
