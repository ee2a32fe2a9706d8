use Rattle.std.proofs.Common.{◌≡◌, ◌+◌, List, ℕ, length, take, ap, sym, arith, add-one, subst}
use Rattle.dac_dots.specs.Spans.{counters_in}
use Rattle.dac_dots.specs.declared.spans.Span.{Span}
use Rattle.dac_dots.proofs.SpanLemmas.{no_spans, len_more, len_span}
use Rattle.dac_dots.proofs.counters.Counters.len.Goals as goal

pub loop-span-init : goal.loop-span-init
loop-span-init c = record { so_far = ap (λ (ns : List ℕ). length ns) (sym no_spans); small = omega arith }

pub loop-span-preserved : goal.loop-span-preserved
loop-span-preserved c =
    let spans = c.spans-span-items.result.now in
    let i = c.loop-span.span-index in
    let d : Span = record { first = 0; last = 0 } in
    let at = len_more spans i d c.loop-span-test.true in
    let span = len_span 0 spans (c.spans-span-items.ensures.apart) i d c.loop-span-test.true in
    let so_far = c.loop-span.invariant.so_far in
    let one = c.len-len.ensures.value in
    let top = c.len-len.ensures.bound in
    record {
      so_far = subst (λ k. c.loop-span.len + c.len-len.result ≡ length (counters_in (take k spans))) (sym (add-one i)) (omega arith);
      small = omega arith;
    }
