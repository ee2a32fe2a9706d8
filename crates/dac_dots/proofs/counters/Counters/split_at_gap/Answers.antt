use Rattle.std.proofs.Common.{◌≡◌, ◌∷◌, ◌∙◌, List, ℕ, true, ap, subst, sym}
use Rattle.std.specs.Ordering.{nat_cmp}
use Rattle.dac_origins.specs.Keys.{has_key}
use Rattle.dac_dots.specs.Rows.{further_of, reach_of}
use Rattle.dac_dots.specs.Spans.{are_apart}
use Rattle.dac_dots.specs.Walking.{counters_after}
use Rattle.dac_dots.proofs.AlongLemmas.{begins_late, further_first, further_later, none_begin}
use Rattle.dac_dots.proofs.SpanLemmas.{upto_first, upto_later, valid_spans}
use Rattle.dac_dots.proofs.counters.Counters.split_at_gap.Goals as goal
use Rattle.dac_dots.proofs.counters.Counters.split_at_gap.Goals.{in_default-via-in-Some+else-first-le1, in_default-via-in_default}

pub returns-in-Some : goal.returns-in-Some
returns-in-Some c =
    let first = c.in-Some.first.now in
    let rest = c.in-Some.rest.now in
    let apart : are_apart 0 (first ∷ rest) ≡ true = rw c.in-Some.ensures.cases.0 at c.spans-spans.ensures.apart in
    let view = rw c.in-Some.ensures.cases.0 at c.spans-spans.ensures.value in
    record {
      upto = upto_first first rest apart c.if-first-le1.true ∙ ap reach_of view;
      rest = subst (λ (now : List ℕ). counters_after (has_key nat_cmp now 0) rest ≡ further_of (reach_of now) now) view (further_first first rest apart c.if-first-le1.true);
      valid = (valid_spans 0 (first ∷ rest) apart).1;
    }

pub returns-in_default : goal.returns-in_default
returns-in_default c =
    let spans = c.spans-spans.result.now in
    let late : are_apart 2 spans ≡ true = elim c.in_default.branch [
      | in_default-via-in-Some+else-first-le1 w ↦
          let is = w.in-Some.ensures.cases.0 in
          ap (are_apart 2) is ∙ begins_late w.in-Some.first.now w.in-Some.rest.now (sym (ap (are_apart 0) is) ∙ c.spans-spans.ensures.apart) w.if-first-le1.false
      | in_default-via-in_default w ↦ none_begin spans (rw w.in_default.is at c.split_first.ensures.cases)
    ] in
    record {
      upto = upto_later spans late ∙ ap reach_of c.spans-spans.ensures.value;
      rest = subst (λ (now : List ℕ). counters_after (has_key nat_cmp now 0) spans ≡ further_of (reach_of now) now) c.spans-spans.ensures.value (further_later spans late);
      valid = valid_spans 2 spans late;
    }
