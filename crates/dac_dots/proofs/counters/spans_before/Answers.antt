use Rattle.std.proofs.Common.{nat_lt, rules}
use Rattle.std.proofs.lemmas.List.Sorted.{IsPartitionPoint-from_clause}
use Rattle.dac_dots.specs.declared.spans.Span.{Span}
use Rattle.dac_dots.proofs.SpanLemmas.{none_ended, parted_by_end}
use Rattle.dac_dots.proofs.counters.spans_before.Goals as goal

pub returns-in-Some : goal.returns-in-Some
returns-in-Some c =
    let item = c.in-Some.ensures.item in
    none_ended c.args.spans.now c.requires c.in-Some.first.now item.3.0 (item.3.1 c.in-Some.first.now) c.args.n c.if-n-first.true

pub returns-in_default : goal.returns-in_default
returns-in_default c = IsPartitionPoint-from_clause (λ (r : Span). nat_lt r.last c.args.n) _ _ c.partition_point.ensures.partitioned (parted_by_end c.args.n c.args.spans.now c.requires) (λ a r q k. search rules)
