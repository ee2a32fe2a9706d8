use Rattle.std.proofs.Common.{◌+◌, nat_lt, rules, sym, ◌∙◌}
use Rattle.std.proofs.lemmas.List.Sorted.{IsPartitionPoint-from_clause}
use Rattle.dac_dots.specs.declared.spans.Span.{Span}
use Rattle.dac_dots.proofs.SpanLemmas.{parted_by_gap, place_at_end, place_at_last}
use Rattle.dac_dots.proofs.spans.place_for.Goals as goal

pub returns-in-Some : goal.returns-in-Some
returns-in-Some c =
    let item = c.in-Some.ensures.item in
    let last = c.in-Some.last.now in
    place_at_end c.args.spans.now c.requires last item.3.0 (item.3.1 last) c.args.span.first (sym c.ends_before.ensures ∙ c.if-ends_before.true)

pub returns-in-Some-2 : goal.returns-in-Some-2
returns-in-Some-2 c =
    let item = c.in-Some.ensures.item in
    let last = c.in-Some.last.now in
    place_at_last c.args.spans.now c.requires last item.3.0 (item.3.1 last) c.args.span.first (sym c.ends_before.ensures ∙ c.if-ends_before.false) c.if-last-span.true

pub returns-in_default : goal.returns-in_default
returns-in_default c =
    let point = IsPartitionPoint-from_clause (λ (r : Span). nat_lt (r.last + 1) c.args.span.first) _ _ c.partition_point.ensures.partitioned (parted_by_gap c.args.span.first c.args.spans.now c.requires) (λ a r q k. search rules) in
    record { within = c.partition_point.ensures.bound; before = point.0; after = point.1 }
