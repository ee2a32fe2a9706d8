use Rattle.std.proofs.Common.{◌||◌, ◌∙◌, sym}
use Rattle.std.proofs.lemmas.Result.{IfOk-weaker}
use Rattle.std.specs.Ordering.{nat_cmp}
use Rattle.dac_origins.specs.Keys.{has_key}
use Rattle.dac_dots.proofs.SpanLemmas.{has_now}
use Rattle.dac_dots.proofs.counters.Counters.union.Goals as goal

pub returns-then-theirs-le-FEW-clause-has : goal.returns-then-theirs-le-FEW-clause-has
returns-then-theirs-le-FEW-clause-has c n =
    c.in_ok-put_all.ensures.ok n
    ∙ (λ i. sym (has_now c.spans-theirs.result.now c.spans-theirs.ensures.apart c.args.other.now c.spans-theirs.ensures.value n) i || has_key nat_cmp (c.in_ok-both.ensures.value i) n)

pub returns-clause-has : goal.returns-clause-has
returns-clause-has c =
    IfOk-weaker c.merge_spans.result _ _
    (λ both is n. is.1 n ∙ (λ i. sym (has_now c.spans-theirs.result.now c.spans-theirs.ensures.apart c.args.other.now c.spans-theirs.ensures.value n) i || sym (has_now c.spans.result.now c.spans.ensures.apart c.args.self.now c.spans.ensures.value n) i))
    c.merge_spans.ensures
