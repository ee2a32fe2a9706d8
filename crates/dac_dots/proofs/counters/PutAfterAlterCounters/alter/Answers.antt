use Rattle.std.proofs.Common.{◌||◌, ◌∙◌, ap, sym}
use Rattle.dac_dots.specs.Spans.{span_has, spans_of}
use Rattle.dac_dots.proofs.NewsLemmas.{ok_both}
use Rattle.dac_dots.proofs.SpanLemmas.{has_counters, has_now, rising_counters}
use Rattle.dac_dots.proofs.counters.PutAfterAlterCounters.alter.Goals as goal

pub returns-clause-ok : goal.returns-clause-ok
returns-clause-ok g c =
    let old = spans_of c.counters.inside.spans in
    let new = spans_of c.put_after.new.self in
    ok_both c.put_after.result _ _ _ (λ all stepped. (
      rising_counters 0 new c.put_after.ensures.apart,
      (λ n. has_counters new n ∙ all n ∙ ap (λ b. span_has n c.args.self.now.span || b) (sym (has_now old c.counters.invariant c.args.counters.now c.counters.view_is n)), stepped),
    )) c.put_after.ensures.ok c.put_after.ensures.step
