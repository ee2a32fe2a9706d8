use Rattle.std.proofs.Common.{rules}
use Rattle.std.specs.Arc.{arc_value}
use Rattle.std.proofs.lemmas.List.Sorted.{IsPartitionPoint-from_clause}
use Rattle.dac_sorted.proofs.PartLemmas.{last_below, place_found}
use Rattle.dac_sorted.proofs.parts.place_in.Goals as goal

pub returns : goal.returns
returns g c =
    let o = g.met.K.Ord.total in
    let exact = g.met.K.MapKey.exact in
    let found = c.partition_point.ensures in
    place_found o exact arc_value c.args.key _ _ c.requires.in_order c.requires.filled found.bound
    (λ parted. IsPartitionPoint-from_clause (last_below o exact arc_value c.args.key) _ _ found.partitioned parted (λ a r q k. search rules))
