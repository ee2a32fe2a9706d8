use Rattle.std.proofs.Common.{◌-◌, ◌∙◌, Some, sym, ap, arith}
use Rattle.dac_dots.specs.declared.spans.Span.{Span}
use Rattle.dac_dots.proofs.AlongLemmas.{in_span, behind_span}
use Rattle.dac_dots.proofs.SpanLemmas.{valid_at}
use Rattle.dac_dots.proofs.counters.counter_at.Goals as goal

pub returns-then-left-len : goal.returns-then-left-len
returns-then-left-len c =
    let d : Span = record { first = 0; last = 0 } in
    let less = c.if-left-len.true in
    let long = c.len-len.ensures.value in
    sym (c.loop-span.invariant ∙ in_span c.args.spans.now c.loop-span.span-index d c.loop-span-test.true c.loop-span.left (omega (arith, less, long)) ∙ ap Some (sym c.at.ensures))

pub loop-span-preserved : goal.loop-span-preserved
loop-span-preserved c =
    let d : Span = record { first = 0; last = 0 } in
    let long = c.len-len.ensures.value in
    let more = c.if-left-len.false in
    c.loop-span.invariant ∙ behind_span c.args.spans.now c.loop-span.span-index d c.loop-span-test.true c.loop-span.left (valid_at c.args.spans.now c.requires c.loop-span.span-index d c.loop-span-test.true) (c.loop-span.left - c.len-len.result) (omega (arith, long, more))
