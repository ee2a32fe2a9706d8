use Rattle.std.proofs.Common.{◌++◌, ◌∙◌, ap}
use Rattle.dac_part_bytes.proofs.Common.{flat_map, Dots, in_order, Key, keyed_dots_bytes, starts_by_key, u32_bytes, starts_bytes}
use Rattle.dac_part_bytes.proofs.OneByOne.{all_written, one_fewer, one_written}
use Rattle.dac_part_bytes.proofs.writing.write_wishes.Goals as goal

pub loop-key-preserved : goal.loop-key-preserved
loop-key-preserved c =
    let text = (λ (e : Key × Dots). keyed_dots_bytes c.args.version (e.0, in_order e.1)) in
    let e = c.in-Some.field-0.now in
    one_written text c.loop-key.left c.next.new.self e c.loop-key.written _ (c.in_ok-written.written ++ flat_map text c.entries-left.result) c.in-Some.ensures c.loop-key.invariant
    (c.in_ok-written-2.ensures ∙ ap (λ es. c.loop-key.written ++ keyed_dots_bytes c.args.version (e.0, es)) c.dots.ensures)

pub loop-key-smaller : goal.loop-key-smaller
loop-key-smaller c = one_fewer c.loop-key.left c.next.new.self c.in-Some.field-0.now c.in-Some.ensures

pub returns : goal.returns
unfolding starts_bytes
returns c =
    all_written (λ (e : Key × Dots). keyed_dots_bytes c.args.version (e.0, in_order e.1)) u32_bytes c.args.writer c.in_ok-written.written c.loop-key.written c.len.result c.entries-left.result c.loop-key.left (starts_by_key c.args.wishes.now.standing)
    c.entries-left.ensures c.len.ensures c.in_ok-written.ensures c.in_default.ensures.0 c.loop-key.invariant
