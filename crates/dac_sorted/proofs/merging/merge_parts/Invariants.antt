use Rattle.std.proofs.Common.{◌≡◌, ◌++◌}
use Rattle.std.specs.Arc.{arc_value}
use Rattle.std.specs.List.{flat_map}
use Rattle.dac_lattice.specs.Entries.{merge_entries}
use Rattle.dac_lattice.specs.Search.{IsInOrder}
use Rattle.dac_sorted.specs.Digests.{SaysAll}
use Rattle.dac_sorted.proofs.PartLemmas.{rest_of}
use Rattle.dac_sorted.proofs.merging.merge_parts.Given as goal

-- the merged entries followed by the merge of the rest are the whole merge
abbrev pub invariant-loop-block : goal.invariant-loop-block
invariant-loop-block g l =
    let f = g.C.Combine.combined l.how in
    record {
      merged : l.built ++ merge_entries g.K.Ord.cmp f (rest_of arc_value l.blocks l.last l.block-index) l.others ≡ merge_entries g.K.Ord.cmp f (flat_map arc_value l.blocks ++ l.last) l.fn.theirs;
      in_order : IsInOrder g.K.Ord.cmp (rest_of arc_value l.blocks l.last l.block-index);
      fits : SaysAll (g.C.Sharing.fits l.how) (rest_of arc_value l.blocks l.last l.block-index);
    }
