use Rattle.dac_dots.proofs.SpanLemmas.{merged_rest}
use Rattle.dac_dots.proofs.counters.merge_spans.Goals as goal

pub returns : goal.returns
returns c = (
  c.in_ok-put_all-2.ensures.rising (c.in_ok-put_all.ensures.rising c.both.invariant.rising),
  merged_rest c.args.xs.now c.args.ys.now c.both.i c.both.j c.both.both c.put_all.new.self c.put_all-2.new.self c.both.invariant.so_far c.in_ok-put_all.ensures.ok c.in_ok-put_all-2.ensures.ok,
)
