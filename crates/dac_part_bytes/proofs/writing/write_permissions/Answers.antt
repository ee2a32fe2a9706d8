use Rattle.std.proofs.Common.{◌++◌, ◌∙◌, ap}
use Rattle.dac_part_bytes.proofs.Common.{flat_map, Up, key_bytes, keyed_votes_bytes, u32_bytes, votes_bytes}
use Rattle.dac_wishes.specs.PermitsByKey.{permits_by_key}
use Rattle.dac_part_bytes.proofs.OneByOne.{all_written, one_fewer, one_written}
use Rattle.dac_part_bytes.proofs.writing.write_permissions.Goals as goal

pub loop-key-preserved : goal.loop-key-preserved
loop-key-preserved c =
    let text = (keyed_votes_bytes (key_bytes c.args.version) c.args.version Up) in
    let e = c.in-Some.field-0.now in
    one_written text c.loop-key.left c.next.new.self e c.loop-key.written _ (c.in_ok-written.written ++ flat_map text c.entries-left.result) c.in-Some.ensures c.loop-key.invariant
    (c.in_ok-written-2.ensures ∙ ap (λ es. c.loop-key.written ++ keyed_votes_bytes (key_bytes c.args.version) c.args.version Up (e.0, es)) c.entries.ensures)

pub loop-key-smaller : goal.loop-key-smaller
loop-key-smaller c = one_fewer c.loop-key.left c.next.new.self c.in-Some.field-0.now c.in-Some.ensures

pub returns : goal.returns
unfolding votes_bytes
returns c =
    all_written (keyed_votes_bytes (key_bytes c.args.version) c.args.version Up) u32_bytes c.args.writer c.in_ok-written.written c.loop-key.written c.len.result c.entries-left.result c.loop-key.left (permits_by_key c.args.permissions.now.standing)
    c.entries-left.ensures c.len.ensures c.in_ok-written.ensures c.in_default.ensures.0 c.loop-key.invariant
