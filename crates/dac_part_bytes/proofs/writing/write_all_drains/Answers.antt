use Rattle.std.proofs.Common.{◌++◌, ◌∙◌, ap}
use Rattle.dac_part_bytes.proofs.Common.{flat_map, Down, origin_bytes, Two, keyed_votes_bytes, u32_bytes, votes_bytes}
use Rattle.dac_wishes.specs.StoredDrains.{drains_by_origin}
use Rattle.dac_part_bytes.proofs.OneByOne.{all_written, one_fewer, one_written}
use Rattle.dac_part_bytes.proofs.writing.write_all_drains.Goals as goal

pub loop-at-preserved : goal.loop-at-preserved
loop-at-preserved c =
    let text = (keyed_votes_bytes (origin_bytes Two) Two Down) in
    let e = c.in-Some.field-0.now in
    one_written text c.loop-at.left c.next.new.self e c.loop-at.written _ (c.in_ok-written.written ++ flat_map text c.entries-left.result) c.in-Some.ensures c.loop-at.invariant
    (c.in_ok-written-2.ensures ∙ ap (λ es. c.loop-at.written ++ keyed_votes_bytes (origin_bytes Two) Two Down (e.0, es)) c.entries.ensures)

pub loop-at-smaller : goal.loop-at-smaller
loop-at-smaller c = one_fewer c.loop-at.left c.next.new.self c.in-Some.field-0.now c.in-Some.ensures

pub returns : goal.returns
unfolding votes_bytes
returns c =
    all_written (keyed_votes_bytes (origin_bytes Two) Two Down) u32_bytes c.args.writer c.in_ok-written.written c.loop-at.written c.len.result c.entries-left.result c.loop-at.left (drains_by_origin c.args.drains.now.standing)
    c.entries-left.ensures c.len.ensures c.in_ok-written.ensures c.in_default.ensures.0 c.loop-at.invariant
