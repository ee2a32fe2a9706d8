use Rattle.std.proofs.Common.{◌||◌, ◌∙◌, ap, sym}
use Rattle.std.proofs.lemmas.Result.{on_ok_weaker, on_err_weaker}
use Rattle.dac_dots.specs.Spans.{span_has, spans_of}
use Rattle.dac_dots.proofs.SpanLemmas.{rising_counters, has_counters, has_now}
use Rattle.dac_dots.proofs.counters.Counters.put.Goals as goal

pub returns-clause-rising : goal.returns-clause-rising
returns-clause-rising c = rising_counters 0 (spans_of c.put.new.self) c.put.ensures.apart

pub returns-clause-ok : goal.returns-clause-ok
returns-clause-ok c =
    on_ok_weaker c.put.result (λ all n. has_counters (spans_of c.put.new.self) n ∙ all n ∙ ap (λ b. span_has n c.args.span || b) (sym (has_now (spans_of c.self.inside.spans) c.self.invariant c.args.self.now c.self.view_is n))) c.put.ensures.ok

pub returns-clause-first : goal.returns-clause-first
returns-clause-first c = on_err_weaker c.put.result (λ none n e. has_now (spans_of c.self.inside.spans) c.self.invariant c.args.self.now c.self.view_is n ∙ none n e) c.put.ensures.first
