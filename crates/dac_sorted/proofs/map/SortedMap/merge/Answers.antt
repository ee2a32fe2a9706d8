use Rattle.std.proofs.Common.{subst}
use Rattle.dac_lattice.specs.Search.{IsInOrder}
use Rattle.dac_lattice.specs.laws.Entries.{sorted_merge}
use Rattle.dac_sorted.specs.Digests.{SaysAll}
use Rattle.dac_sorted.proofs.map.SortedMap.merge.Goals as goal

pub merge_parts-requires : goal.merge_parts-requires
merge_parts-requires g c = record {
  in_order = subst (IsInOrder g.K.Ord.cmp) c.pieces.ensures.value c.tells_order.ensures;
  fits = subst (SaysAll (g.C.Sharing.fits c.args.how.now)) c.pieces.ensures.value c.requires;
}

pub of-requires : goal.of-requires
of-requires g c =
    rw (c.in_ok-parts.ensures, ← c.pieces.ensures.value, c.entries.ensures)
    (sorted_merge g.met.K.Ord.total g.met.K.MapKey.exact (g.C.Combine.combined c.args.how.now) _ _ c.tells_order.ensures c.tells_order-2.ensures)

pub returns : goal.returns
returns g c = rw (c.in_ok-parts.ensures, ← c.pieces.ensures.value, c.entries.ensures) at c.of.ensures
