-- The rank of an eligible node for an application: by its group, then by its load, then by its name, so that only equal
-- ranks tie.
use Rattle.std.specs.Ordering.{nat_cmp, ordering_then}
use Rattle.std.specs.declared.cmp.Ordering.{Ordering}
use Rattle.dac_base.specs.Ids.{node_cmp}
pub use Rattle.dac_placement.specs.declared.ranking.Rank.{Rank}

-- the order of ranks: by group, then by load, then by name
abbrev pub rank_cmp : Rank → Rank → Ordering
rank_cmp a b = ordering_then (nat_cmp a.group b.group) (ordering_then (nat_cmp a.load b.load) (node_cmp a.node b.node))
