use Rattle.std.proofs.Common.{inl, inr, arith}
use Rattle.std.proofs.lemmas.Bool.{le-leb, leb-true, false≢true, cases_lt}
use Rattle.dac_dots.proofs.SpanLemmas.{none_found, lies_within, begins_past, ends_past}
use Rattle.dac_dots.proofs.counters.Counters.has_span.Goals as goal

pub returns-in-None : goal.returns-in-None
returns-in-None c =
    let spans = c.spans-spans.result.now in
    let point = c.spans_before.ensures in
    (λ e. absurd (false≢true e), λ all. absurd (none_found spans c.spans-spans.ensures.apart c.args.self.now c.spans-spans.ensures.value c.args.span c.requires _ point (c.in-None.ensures.lookup.3) all))

pub returns-then-found-span : goal.returns-then-found-span
returns-then-found-span c =
    let spans = c.spans-spans.result.now in
    let span = c.args.span in
    let found = c.in-Some.found.now in
    let point = c.spans_before.ensures in
    let lookup = c.in-Some.ensures.lookup in (
      λ e. lies_within spans c.spans-spans.ensures.apart c.args.self.now c.spans-spans.ensures.value span c.requires _ point found lookup.3.0 (lookup.3.1 found) c.if-found-span.true (leb-true span.last found.last e),
      λ all. elim (cases_lt found.last span.last) [
        | inl past ↦ absurd (ends_past spans c.spans-spans.ensures.apart c.args.self.now c.spans-spans.ensures.value span c.requires _ point found lookup.3.0 (lookup.3.1 found) c.if-found-span.true past all)
        | inr within ↦ le-leb span.last found.last within
      ],
    )

pub returns-else-found-span : goal.returns-else-found-span
returns-else-found-span c =
    let spans = c.spans-spans.result.now in
    let span = c.args.span in
    let found = c.in-Some.found.now in
    let point = c.spans_before.ensures in
    let lookup = c.in-Some.ensures.lookup in (
      λ e. absurd (let low = leb-true found.first span.first e in let past = c.if-found-span.false in omega arith),
      λ all. elim (cases_lt span.first found.first) [
        | inl past ↦ absurd (begins_past spans c.spans-spans.ensures.apart c.args.self.now c.spans-spans.ensures.value span c.requires _ point found lookup.3.0 (lookup.3.1 found) past all)
        | inr within ↦ le-leb found.first span.first within
      ],
    )
